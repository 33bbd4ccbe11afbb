use Rattle.std.proofs.Common.{◌≡◌, ◌++◌, map, drop}
use Rattle.ft_documents.proofs.Common.{shown_change, column_of, shown_rewrite, befores, afters, dropped_documents}
use Rattle.ft_documents.proofs.IndexOf.{ToJoin}
use Rattle.ft_documents.proofs.rewrite.row_changes.Given as goal

-- the documents so far are in the indexes, and the others join them; so do the changes of those
-- that go
abbrev pub invariant-loop-rewrite : goal.invariant-loop-rewrite
invariant-loop-rewrite l =
    let columns = map column_of l.columns in
    let left = map shown_rewrite (drop l.rewrite-index l.rewrite-items) in
    let all = map shown_rewrite l.rewrite-items in
    ToJoin columns (befores left) (befores all) l.old × ToJoin columns (afters left) (afters all) l.new × (map shown_change l.changes.items ++ dropped_documents l.tab left ≡ dropped_documents l.tab all)
