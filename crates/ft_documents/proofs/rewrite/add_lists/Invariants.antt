-- the lists so far, and those of the postings that are left
use Rattle.std.proofs.Common.{◌≡◌, ◌++◌, map, length, string_bytes}
use Rattle.ft_documents.proofs.Common.{kept_list, lists_of_term}
use Rattle.ft_documents.proofs.rewrite.add_lists.Given as goal

abbrev pub invariant-loop-docid : goal.invariant-loop-docid
invariant-loop-docid l = map kept_list l.lists.items ++ lists_of_term (string_bytes l.term.term) l.left ≡ map kept_list l.fn.lists.items ++ lists_of_term (string_bytes l.term.term) l.initial.left

abbrev pub decreases-loop-docid : goal.decreases-loop-docid
decreases-loop-docid l = length l.left
