use Rattle.std.proofs.Common.{◌≡◌, ◌+◌, ◌++◌, length, map}
use Rattle.ft_query.proofs.Common.{among, offset_at, TakesOf}
use Rattle.ft_query.proofs.walk.starts.mark.Given as goal

abbrev pub invariant-loop-spot : goal.invariant-loop-spot
invariant-loop-spot l =
    (l.found.items ++ map (offset_at l.number) (among 0 l.i l.ahead l.left)
    ≡ l.initial.found.items ++ map (offset_at l.number) (among 0 l.i l.places l.starts))
    × TakesOf (length l.places + length l.starts) (length l.ahead + length l.left) l.initial.steps l.steps

abbrev pub decreases-loop-spot : goal.decreases-loop-spot
decreases-loop-spot l = length l.ahead
