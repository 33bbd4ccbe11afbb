use Rattle.std.proofs.Common.{◌≡◌, length}
use Rattle.ft_query.proofs.Common.{skip_behind, TakesOf}
use Rattle.ft_query.proofs.walk.starts.skip_behind.Given as goal

abbrev pub invariant-loop-other : goal.invariant-loop-other
invariant-loop-other l =
    (skip_behind l.gap.most l.gap.k l.left l.place ≡ skip_behind l.gap.most l.gap.k l.places l.place)
    × TakesOf (length l.places) (length l.left) l.initial.steps l.steps

abbrev pub decreases-loop-other : goal.decreases-loop-other
decreases-loop-other l = length l.left
