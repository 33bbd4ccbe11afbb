use Rattle.std.proofs.Common.{Ok}
use Rattle.ft_store.proofs.MadeLemmas.{MakesFirst}
use Rattle.ft_store.proofs.write.apply_each.Given as goal

abbrev pub invariant-loop-change : goal.invariant-loop-change
invariant-loop-change g l = MakesFirst g.S.Store l.fn.tx.conn l.tx.conn (Ok tt) l.changes l.change-index
