-- the changes of the lists so far
use Rattle.std.proofs.Common.{◌≡◌, ◌++◌, map}
use Rattle.ft_documents.proofs.Common.{key_cmp, shown_change, kept_list}
use Rattle.ft_documents.specs.RewriteRows as rows
use Rattle.ft_documents.proofs.rewrite.put_lists.Given as goal

abbrev pub invariant-loop-list : goal.invariant-loop-list
invariant-loop-list l = map shown_change l.changes.items ≡ map shown_change l.fn.changes.items ++ rows.put_lists l.tab (rows.changed key_cmp rows.same_spots (map kept_list l.old) (map kept_list l.yielded))
