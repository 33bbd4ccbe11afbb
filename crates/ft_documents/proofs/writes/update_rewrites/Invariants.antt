-- the rewrites so far
use Rattle.std.proofs.Common.{◌≡◌, map}
use Rattle.ft_documents.proofs.Common.{column_of, set_of, shown_document, shown_rewrite, changing}
use Rattle.ft_documents.proofs.writes.update_rewrites.Given as goal

abbrev pub invariant-loop-document : goal.invariant-loop-document
invariant-loop-document l = map shown_rewrite l.rewrites.items ≡ map (changing (map set_of l.fn.sets) (map column_of l.fn.columns)) (map shown_document l.yielded)
