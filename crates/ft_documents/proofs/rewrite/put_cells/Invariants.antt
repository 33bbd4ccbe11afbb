-- the changes of the cells so far
use Rattle.std.proofs.Common.{◌≡◌, ◌++◌, map, filter}
use Rattle.ft_documents.proofs.Common.{shown_value, shown_change}
use Rattle.ft_documents.proofs.CellSteps.{placed_cell, is_put, put_at}
use Rattle.ft_documents.proofs.rewrite.put_cells.Given as goal

abbrev pub invariant-loop-place : goal.invariant-loop-place
invariant-loop-place l = map shown_change l.changes.items ≡ map shown_change l.fn.changes.items ++ map (put_at l.tab l.docid) (filter (is_put (map shown_value l.before)) (map placed_cell l.yielded))
