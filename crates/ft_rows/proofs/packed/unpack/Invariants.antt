-- the places of all bytes are those so far and those of what is left
use Rattle.std.proofs.Common.{◌≡◌, ◌++◌, length, Some, true}
use Rattle.ft_rows.proofs.Common.{option_and_then, origin, read_after}
use Rattle.ft_rows.proofs.packed.unpack.Given as goal

abbrev pub invariant-loop-left : goal.invariant-loop-left
invariant-loop-left l = read_after true origin l.fn.bytes ≡ option_and_then (λ ss. Some (l.spots.items ++ ss)) (read_after l.is_first l.last l.left)

abbrev pub decreases-loop-left : goal.decreases-loop-left
decreases-loop-left l = length l.left
