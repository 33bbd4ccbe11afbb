use Rattle.std.proofs.Common.{[], ◌++◌, Ok, map, refl, rules}
use Rattle.ft_store.proofs.Common.{shown_change}
use Rattle.ft_store.proofs.MadeLemmas.{nothing_made, next_is, next_made}
use Rattle.ft_store.proofs.write.change_parts.Goals as goal

pub loop-tx-init : goal.loop-tx-init
loop-tx-init g c = ([], refl, nothing_made g.S.Store c.transaction-tx.result.conn tt _ _ refl)

pub loop-tx-preserved : goal.loop-tx-preserved
loop-tx-preserved g c = (
  c.loop-tx.invariant.0 ++ map shown_change c.in-Some.changes.items,
  next_is g.S.Store c.transaction-tx.result.conn c.loop-tx.tx.conn c.apply_all.new.tx.conn (Ok tt) c.loop-tx.invariant.0 _ _ c.in-Some.changes _ c.loop-tx.invariant.1 (rw (c.in_ok-changes.was, c.in-Some.is) at c.next.ensures),
  next_made g.S.Store c.transaction-tx.result.conn c.loop-tx.tx.conn c.apply_all.new.tx.conn (Ok tt) c.loop-tx.invariant.0 _ _ c.in-Some.changes _ c.loop-tx.invariant.1 (rw (c.in_ok-changes.was, c.in-Some.is) at c.next.ensures) c.loop-tx.invariant.2 (rw c.as_slice.ensures.value at c.in_ok-apply_all.ensures),
)

pub returns-in_err-apply_all-clause-done : goal.returns-in_err-apply_all-clause-done
returns-in_err-apply_all-clause-done g c =
    let made = next_made g.S.Store c.transaction-tx.result.conn c.loop-tx.tx.conn c.apply_all.new.tx.conn c.apply_all.result c.loop-tx.invariant.0 _ _ c.in-Some.changes _ c.loop-tx.invariant.1 (rw (c.in_ok-changes.was, c.in-Some.is) at c.next.ensures) c.loop-tx.invariant.2 (rw c.as_slice.ensures.value at c.apply_all.ensures) in
    let stays = made.stays in
    record { packable = search rules; made = search (rules, stays); mode = search rules; fault = search (rules, stays) }

pub returns-in_err-apply_all-clause-refused : goal.returns-in_err-apply_all-clause-refused
returns-in_err-apply_all-clause-refused g c =
    let made = next_made g.S.Store c.transaction-tx.result.conn c.loop-tx.tx.conn c.apply_all.new.tx.conn c.apply_all.result c.loop-tx.invariant.0 _ _ c.in-Some.changes _ c.loop-tx.invariant.1 (rw (c.in_ok-changes.was, c.in-Some.is) at c.next.ensures) c.loop-tx.invariant.2 (rw c.as_slice.ensures.value at c.apply_all.ensures) in
    let refused = made.refused in
    let survives = made.stays.survives in
    search (rules, refused, survives)
