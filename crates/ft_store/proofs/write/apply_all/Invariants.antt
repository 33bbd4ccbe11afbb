use Rattle.std.proofs.Common.{Ok, ◌≤◌, ◌-◌, length}
use Rattle.ft_store.proofs.MadeLemmas.{MakesFirst}
use Rattle.ft_store.proofs.write.apply_all.Given as goal

abbrev pub invariant-loop-at : goal.invariant-loop-at
invariant-loop-at g l = (l.at ≤ length l.changes) × MakesFirst g.S.Store l.fn.tx.conn l.tx.conn (Ok tt) l.changes l.at

abbrev pub decreases-loop-at : goal.decreases-loop-at
decreases-loop-at g l = length l.changes - l.at
