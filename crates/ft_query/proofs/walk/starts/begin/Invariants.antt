use Rattle.std.proofs.Common.{◌≡◌, ◌++◌, length, filter}
use Rattle.ft_query.proofs.Common.{may_begin, TakesOf}
use Rattle.ft_query.proofs.walk.starts.begin.Given as goal

abbrev pub invariant-loop-spot : goal.invariant-loop-spot
invariant-loop-spot l =
    (l.kept.items ++ filter (may_begin l.only l.first) l.left ≡ filter (may_begin l.only l.first) l.places)
    × TakesOf (length l.places) (length l.left) l.initial.steps l.steps

abbrev pub decreases-loop-spot : goal.decreases-loop-spot
decreases-loop-spot l = length l.left
