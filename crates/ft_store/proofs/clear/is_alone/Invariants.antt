use Rattle.std.proofs.Common.{◌<◌, ◌≤◌, ℕ, IsTrue, Ok}
use Rattle.ft_store.proofs.Common.{HasCleanDisk, state}
use Rattle.ft_store.specs.Calls.{IsStore, StaysUncommitted}
use Rattle.ft_store.specs.Anew.{IsFree, IsUntouched}
use Rattle.ft_store.proofs.clear.is_alone.Given as goal

abbrev pub invariant-loop-at : goal.invariant-loop-at
invariant-loop-at g l =
    let old = state g.S.Store l.fn.tx.conn.now in
    let now = state g.S.Store l.tx.conn.now in
    StaysUncommitted {X = Unit {0}} g.S.Store l.fn.tx.conn l.tx.conn (Ok tt)
    × (HasCleanDisk now → IsTrue old.in_transaction → (IsTrue old.is_open → IsStore old.now)
    → IsUntouched old now × (l.fn.from < l.at → IsTrue old.is_open) × ((at : ℕ) → l.fn.from ≤ at → at < l.at → IsFree at l.fn.tab old.now.trees))
