use Rattle.ft_opening.proofs.MakeLemmas.{Making}
use Rattle.ft_opening.proofs.make.create_all.Given as goal

abbrev pub invariant-loop-at : goal.invariant-loop-at
invariant-loop-at g l = Making g.S.Store l.fn.tx.conn l.tx.conn l.at
