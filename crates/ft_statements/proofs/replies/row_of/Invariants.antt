-- the values so far
use Rattle.std.proofs.Common.{◌≡◌, map}
use Rattle.shell_text.specs.Print.{value_of_cell}
use Rattle.ft_values.specs.Cells.{shown_value}
use Rattle.ft_statements.proofs.Common.{cell_value}
use Rattle.ft_statements.proofs.replies.row_of.Given as goal

abbrev pub invariant-loop-value : goal.invariant-loop-value
invariant-loop-value l = map value_of_cell l.row.items ≡ map cell_value (map shown_value l.yielded)
