-- the lists of the terms so far
use Rattle.std.proofs.Common.{◌≡◌, map}
use Rattle.ft_documents.proofs.Common.{kept_list, lists_of_terms}
use Rattle.ft_documents.proofs.rewrite.posting_lists.Given as goal

abbrev pub invariant-loop-term : goal.invariant-loop-term
invariant-loop-term l = map kept_list l.lists.items ≡ lists_of_terms l.yielded
