use Rattle.std.proofs.Common.{ℕ, ◌<◌, IsTrue}
use Rattle.ft_opening.proofs.Common.{state, HasCleanDisk}
use Rattle.ft_opening.specs.Scan.{tree_at}
use Rattle.ft_store.specs.Calls.{HasOwnRowids}
use Rattle.ft_opening.proofs.ChainLemmas.{Looking}
use Rattle.ft_opening.proofs.examine.are_numbered.Given as goal

abbrev pub invariant-loop-at : goal.invariant-loop-at
invariant-loop-at g l =
    let old = state g.S.Store l.fn.conn in
    let now = state g.S.Store l.conn in
    Looking old now × (HasCleanDisk now → 0 < l.at → IsTrue now.is_open) × (HasCleanDisk now → (i : ℕ) → i < l.at → HasOwnRowids (old.now.trees (tree_at i)))
