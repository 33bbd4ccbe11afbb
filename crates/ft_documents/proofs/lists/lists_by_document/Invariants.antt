-- the lists so far, and those of the postings that are left
use Rattle.std.proofs.Common.{◌≡◌, ◌++◌, map, length}
use Rattle.ft_documents.proofs.Common.{plain_list, read_list, lists_of_postings}
use Rattle.ft_documents.proofs.lists.lists_by_document.Given as goal

abbrev pub invariant-loop-docid : goal.invariant-loop-docid
invariant-loop-docid l = map plain_list l.lists.items ++ map read_list (lists_of_postings l.left) ≡ map read_list (lists_of_postings l.initial.left)

abbrev pub decreases-loop-docid : goal.decreases-loop-docid
decreases-loop-docid l = length l.left
