use Rattle.std.proofs.Common.{arith}
use Rattle.ft_store.proofs.Common.{on_ok_weaker, state, HasCleanDisk}
use Rattle.ft_store.specs.Calls.{IsPlainFault}
use Rattle.ft_store.proofs.AnewLemmas.{first_of, store_documents}
use Rattle.ft_store.proofs.InsideLemmas.{stays_then}
use Rattle.ft_store.proofs.ClearLemmas.{documents_steps, documents_grown, ok_both}
use Rattle.ft_store.proofs.clear.empty_documents.Goals as goal

pub returns-clause-done : goal.returns-clause-done
returns-clause-done g c = record {
  steps = λ free notes clean inside store.
      let old = state g.S.Store c.args.tx.now.conn.now in
      let mid = state g.S.Store c.renew_documents.new.tx.conn.now in
      let new = state g.S.Store c.put_notes.new.tx.conn.now in
      let clean_mid : HasCleanDisk mid = omega (arith, c.put_notes.ensures.changes.done.stays.survives.clean, clean) in
      let one = c.in_ok-renew_documents.ensures.done.steps clean_mid inside (λ o. first_of old.now (store o)) in
      let was = store one.1.was_open in
      on_ok_weaker c.put_notes.result (λ two. documents_steps c.args._tab old mid new c.args.notes.now was notes one.1 free one.0 two) (c.put_notes.ensures.changes.done.steps clean one.1.mode one.1.is_open (store_documents old.now mid.now was one.0));
  stays = stays_then g.S.Store IsPlainFault c.args.tx.now.conn c.renew_documents.new.tx.conn c.put_notes.new.tx.conn c.renew_documents.result c.put_notes.result c.renew_documents.ensures.done.stays c.put_notes.ensures.changes.done.stays;
}

pub returns-clause-grown : goal.returns-clause-grown
returns-clause-grown g c = λ free notes clean inside store.
    let old = state g.S.Store c.args.tx.now.conn.now in
    let mid = state g.S.Store c.renew_documents.new.tx.conn.now in
    let new = state g.S.Store c.put_notes.new.tx.conn.now in
    let clean_mid : HasCleanDisk mid = omega (arith, c.put_notes.ensures.changes.done.stays.survives.clean, clean) in
    let one = c.in_ok-renew_documents.ensures.done.steps clean_mid inside (λ o. first_of old.now (store o)) in
    let was = store one.1.was_open in
    let kept = store_documents old.now mid.now was one.0 in
    on_ok_weaker c.put_notes.result (λ both. documents_grown c.args._tab old.now mid.now c.args.notes.now was notes new.now.trees free one.0 both.0 both.1)
    (ok_both _ _ c.put_notes.result (c.put_notes.ensures.changes.grown clean one.1.mode one.1.is_open kept) (c.put_notes.ensures.others clean one.1.mode one.1.is_open kept))
