-- the rows so far
use Rattle.std.proofs.Common.{◌≡◌, take, map}
use Rattle.shell_text.specs.Print.{value_of_cell}
use Rattle.plain_sql.proofs.Common.{printed_value}
use Rattle.plain_sql.proofs.answers.all_cells.Given as goal

abbrev pub invariant-loop-row : goal.invariant-loop-row
invariant-loop-row l = map (λ row. map value_of_cell row.items) l.cells.items ≡ map (map printed_value) (take l.row-index l.rows)
