use Rattle.std.proofs.Common.{◌≡◌, length}
use Rattle.ft_query.proofs.Common.{seek, TakesOf}
use Rattle.ft_query.proofs.walk.starts.seek.Given as goal

abbrev pub invariant-loop-other : goal.invariant-loop-other
invariant-loop-other l =
    (seek l.i l.place l.j l.left ≡ seek l.i l.place l.j l.places) × TakesOf (length l.places) (length l.left) l.initial.steps l.steps

abbrev pub decreases-loop-other : goal.decreases-loop-other
decreases-loop-other l = length l.left
