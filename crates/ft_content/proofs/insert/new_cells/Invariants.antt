-- the cells so far
use Rattle.std.proofs.Common.{◌≡◌, map, take, zip}
use Rattle.ft_content.proofs.Common.{shown_value, column_of}
use Rattle.ft_content.specs.Step as step
use Rattle.ft_content.proofs.insert.new_cells.Given as goal

abbrev pub invariant-loop-column : goal.invariant-loop-column
invariant-loop-column l = map shown_value l.cells.items ≡ step.new_cells (zip (map (λ n. n.now) l.names) (map shown_value l.row)) (map column_of (take l.column-index l.columns))
