use Rattle.std.proofs.Common.{◌≡◌, map, take}
use Rattle.ft_documents.proofs.Common.{list_of, all_in}
use Rattle.ft_documents.proofs.lists.postings_of.Given as goal

abbrev pub invariant-loop-row : goal.invariant-loop-row
invariant-loop-row l = l.postings.items ≡ all_in (map list_of (take l.row-index l.rows))
