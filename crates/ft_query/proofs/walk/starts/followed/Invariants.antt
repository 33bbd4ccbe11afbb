use Rattle.std.proofs.Common.{◌≡◌, ◌+◌, ◌++◌, length}
use Rattle.ft_query.proofs.Common.{among, TakesOf}
use Rattle.ft_query.proofs.walk.starts.followed.Given as goal

abbrev pub invariant-loop-start : goal.invariant-loop-start
invariant-loop-start l =
    (l.kept.items ++ among l.i 0 l.ahead l.left ≡ among l.i 0 l.starts l.places)
    × TakesOf (length l.starts + length l.places) (length l.ahead + length l.left) l.initial.steps l.steps

abbrev pub decreases-loop-start : goal.decreases-loop-start
decreases-loop-start l = length l.ahead
