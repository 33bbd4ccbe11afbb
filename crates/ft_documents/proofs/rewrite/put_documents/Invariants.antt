-- the changes of the rewrites so far
use Rattle.std.proofs.Common.{◌≡◌, ◌++◌, map}
use Rattle.ft_documents.proofs.Common.{shown_change, shown_rewrite, put_documents}
use Rattle.ft_documents.proofs.rewrite.put_documents.Given as goal

abbrev pub invariant-loop-rewrite : goal.invariant-loop-rewrite
invariant-loop-rewrite l = map shown_change l.changes.items ≡ map shown_change l.fn.changes.items ++ put_documents l.tab (map shown_rewrite l.yielded)
