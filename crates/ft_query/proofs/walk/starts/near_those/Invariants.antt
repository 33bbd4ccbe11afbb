use Rattle.std.proofs.Common.{◌≡◌, ◌+◌, ◌*◌, ◌++◌, length}
use Rattle.ft_query.proofs.Common.{near_those, TakesOf}
use Rattle.ft_query.proofs.walk.starts.near_those.Given as goal

abbrev pub invariant-loop-other : goal.invariant-loop-other
invariant-loop-other l =
    (l.kept.items ++ near_those l.gap.most l.gap.k l.left l.gap.m l.ahead ≡ near_those l.gap.most l.gap.k l.starts l.gap.m l.others)
    × TakesOf (length l.starts + 3 * length l.others) (length l.left + 3 * length l.ahead) l.initial.steps l.steps

abbrev pub decreases-loop-other : goal.decreases-loop-other
decreases-loop-other l = length l.ahead
