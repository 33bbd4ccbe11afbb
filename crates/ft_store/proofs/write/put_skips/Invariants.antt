use Rattle.std.proofs.Common.{take, length, Ok}
use Rattle.ft_store.proofs.Common.{with_skipped}
use Rattle.ft_store.specs.Changes.{ChangesIfOpen}
use Rattle.ft_store.proofs.write.put_skips.Given as goal

abbrev pub invariant-loop-column : goal.invariant-loop-column
invariant-loop-column g l = ChangesIfOpen g.S.Store l.fn.tx.conn l.tx.conn (Ok tt) (λ v. record v { skipped = with_skipped l.fn.tab (take l.column-index l.skipped) v.skipped }) (length (take l.column-index l.skipped)) (λ _. ⊥)
