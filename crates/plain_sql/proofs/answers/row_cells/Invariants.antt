-- the cells so far
use Rattle.std.proofs.Common.{◌≡◌, take, map}
use Rattle.shell_text.specs.Print.{value_of_cell}
use Rattle.plain_sql.proofs.Common.{printed_value}
use Rattle.plain_sql.proofs.answers.row_cells.Given as goal

abbrev pub invariant-loop-at : goal.invariant-loop-at
invariant-loop-at l = map value_of_cell l.cells.items ≡ map printed_value (take l.at l.row)
