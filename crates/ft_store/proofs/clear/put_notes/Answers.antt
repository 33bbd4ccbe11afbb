use Rattle.std.proofs.Common.{rules, length, take, sym, refl, Ok, ◌+◌, arith}
use Rattle.ft_store.proofs.Common.{state, HasCleanDisk}
use Rattle.ft_store.proofs.CantLemmas.{take_one, room_left, full_since, full_more}
use Rattle.ft_store.proofs.RefusedLemmas.{rest_then}
use Rattle.ft_store.proofs.InsideLemmas.{if_open, went_on, becomes, stops, open_then}
use Rattle.ft_store.proofs.ClearLemmas.{note_more}
use Rattle.ft_store.proofs.clear.put_notes.Goals as goal

pub loop-note-preserved : goal.loop-note-preserved
loop-note-preserved g c =
    let old = (state g.S.Store c.args.tx.now.conn.now).now.trees in
    let was = state g.S.Store c.loop-note.tx.conn.now in
    let now = (state g.S.Store c.put_again.new.tx.conn.now).now.trees in
    let notes = c.args.notes.now in
    let at = c.loop-note.note-index in (
      becomes g.S.Store _ _ _ _ _ _ _
          (open_then g.S.Store _ _ _ (Ok tt) _ _ (length (take at notes)) 1 _ (λ _. ⊥) (λ _. ⊥) (λ _. ⊥) (went_on g.S.Store _ _ _ 1 _ c.in_ok-put_again.ensures.changes) (sym (take_one notes at c.loop-note-test.true)) (λ _ _ none. none) c.loop-note.invariant.0)
          (λ v i. record v { noted = note_more notes at c.note-item.result c.loop-note-test.true c.note-item.is v.noted i }),
      λ clean inside is_open store.
          let clean_was : HasCleanDisk was = omega (arith, c.put_again.ensures.changes.done.stays.survives.clean, clean) in
          let before = c.loop-note.invariant.0.done.steps clean_was inside is_open store in
          rest_then 11 old was.now.trees now (c.loop-note.invariant.1 clean_was inside is_open store) (c.in_ok-put_again.ensures.others clean before.shown.mode (λ _. before.store)),
    )

pub returns-in_err-put_again-clause-changes : goal.returns-in_err-put_again-clause-changes
returns-in_err-put_again-clause-changes g c =
    let old = (state g.S.Store c.args.tx.now.conn.now).now.trees in
    let was = (state g.S.Store c.loop-note.tx.conn.now).now.trees in
    let notes = c.args.notes.now in
    let at = c.loop-note.note-index in
    let n = length (take at notes) in
    stops g.S.Store _ _ c.put_again.result c.from_residual.result c.in_err-put_again.field-0.0 _ _ _ _ _ (search rules) (search rules)
    (open_then g.S.Store _ _ _ c.put_again.result _ _ n 1 (n + 1) (λ _. ⊥) _ _ (if_open g.S.Store _ _ _ _ 1 _ c.put_again.ensures.changes) refl
    (λ one grown full. full_more (n + 1) (length notes) (old 11) (room_left notes at c.loop-note-test.true) (full_since n 1 (old 11) (was 11) grown.1.1.1.1.0 full)) c.loop-note.invariant.0)
