use Rattle.std.proofs.Common.{IsTrue, Ok}
use Rattle.ft_store.proofs.Common.{HasCleanDisk, state}
use Rattle.ft_store.specs.Calls.{IsStore, StaysUncommitted}
use Rattle.ft_store.specs.Anew.{Thins}
use Rattle.ft_store.proofs.clear.thin_lists.Given as goal

abbrev pub invariant-loop-letter : goal.invariant-loop-letter
invariant-loop-letter g l =
    let old = state g.S.Store l.fn.tx.conn.now in
    let now = state g.S.Store l.tx.conn.now in
    StaysUncommitted {X = Unit {0}} g.S.Store l.fn.tx.conn l.tx.conn (Ok tt)
    × (HasCleanDisk now → IsTrue old.in_transaction → (IsTrue old.is_open → IsStore old.now) → Thins l.fn.tab old now)
