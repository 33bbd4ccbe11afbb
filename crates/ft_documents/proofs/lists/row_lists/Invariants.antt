-- the lists so far
use Rattle.std.proofs.Common.{◌≡◌, map}
use Rattle.ft_documents.proofs.Common.{plain_list, list_of}
use Rattle.ft_documents.proofs.lists.row_lists.Given as goal

abbrev pub invariant-loop-row : goal.invariant-loop-row
invariant-loop-row l = map plain_list l.lists.items ≡ map list_of l.yielded
