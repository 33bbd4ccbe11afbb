-- the rows so far
use Rattle.std.proofs.Common.{◌≡◌, map}
use Rattle.shell_text.specs.Print.{value_of_cell}
use Rattle.ft_statements.proofs.Common.{cells_of, cell_value}
use Rattle.ft_statements.proofs.replies.rows_of.Given as goal

abbrev pub invariant-loop-row : goal.invariant-loop-row
invariant-loop-row l = map (λ row. map value_of_cell row.items) l.cells.items ≡ map (map cell_value) (map cells_of l.yielded)
