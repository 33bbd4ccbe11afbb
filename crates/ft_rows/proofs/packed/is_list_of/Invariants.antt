-- the places of all bytes are those of the postings just where those of what is left are those to come
use Rattle.std.proofs.Common.{map, drop, ◌==◌}
use Rattle.ft_rows.proofs.Common.{spot_of}
use Rattle.ft_rows.proofs.ExactLemmas.{Reads}
use Rattle.ft_rows.proofs.packed.is_list_of.Given as goal

abbrev pub invariant-loop-at : goal.invariant-loop-at
invariant-loop-at l = Reads l.bytes (map spot_of l.postings) (l.at == 0) l.last l.left (map spot_of (drop l.at l.postings))
