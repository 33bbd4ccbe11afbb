use Rattle.std.proofs.Common.{◌≡◌, ◌∙◌, [], map, subst, arith, rules, to_z-of_z}
use Rattle.ft_store.proofs.Common.{Database, state, HasCleanDisk, Survives, survives_then, name_cmp}
use Rattle.ft_store.specs.Rows.{keyed, note_entry}
use Rattle.ft_store.specs.Found.{found_note}
use Rattle.ft_store.specs.Anew.{AreFree}
use Rattle.ft_store.proofs.Texts.{no_limit, no_offset, all_notes}
use Rattle.ft_store.proofs.AnswerLemmas.{noted_shown, all_kept}
use Rattle.ft_store.proofs.BlameLemmas.{blamed_then}
use Rattle.ft_store.proofs.ClearLemmas.{stands_then, stands_store}
use Rattle.ft_store.specs.Calls.{IsPlainFault}
use Rattle.ft_store.proofs.InsideLemmas.{stays_then, stays_more}
use Rattle.ft_store.proofs.clear.notes_beside.Goals as goal

pub returns-in_err-notes-clause-refused : goal.returns-in_err-notes-clause-refused
returns-in_err-notes-clause-refused g c = λ clean inside store is.
    let old = state g.S.Store c.args.tx.now.conn.now in
    let one_at = state g.S.Store c.has_many.new.tx.conn.now in
    let two_at = state g.S.Store c.is_alone.new.tx.conn.now in
    let new = state g.S.Store c.look.new.tx.conn.now in
    let clean_2 : HasCleanDisk two_at = omega (arith, c.look.ensures.done.stays.survives.clean, clean) in
    let clean_1 : HasCleanDisk one_at = omega (arith, c.is_alone.ensures.done.stays.survives.clean, clean_2) in
    let one = c.in_ok-has_many.ensures.done.steps clean_1 inside store in
    let two = c.in_ok-is_alone.ensures.done.steps clean_2 one.0.inside (stands_store old one_at one.0 store) in
    let both = stands_then old one_at two_at one.0 two.0 in
    let past : Survives old two_at (λ _. ⊥) = survives_then old one_at two_at _ _ _ (λ _ db none. none) (λ _ db none. none) c.has_many.ensures.done.stays.survives c.is_alone.ensures.done.stays.survives in
    blamed_then old two_at new _ _ clean_2 past c.look.ensures.done.stays.survives (c.look.ensures.refused 11 [] no_limit no_offset all_notes clean two.0.inside (stands_store old two_at both store) (search rules))

pub returns-then-are_short-clause-done : goal.returns-then-are_short-clause-done
returns-then-are_short-clause-done g c =
    let old = state g.S.Store c.args.tx.now.conn.now in
    let one_at = state g.S.Store c.has_many.new.tx.conn.now in
    let two_at = state g.S.Store c.is_alone.new.tx.conn.now in
    let new = state g.S.Store c.look.new.tx.conn.now in
    let notes = c.in_ok-notes.notes in
    let are = c.are_short.ensures c.if-are_short.true in
    record {
      steps = λ clean inside store.
          let clean_2 : HasCleanDisk two_at = omega (arith, c.look.ensures.done.stays.survives.clean, clean) in
          let clean_1 : HasCleanDisk one_at = omega (arith, c.is_alone.ensures.done.stays.survives.clean, clean_2) in
          let one = c.in_ok-has_many.ensures.done.steps clean_1 inside store in
          let two = (simp (to_z-of_z, c.ranges.tab) at c.in_ok-is_alone.ensures.done.steps) clean_2 one.0.inside (stands_store old one_at one.0 store) in
          let both = stands_then old one_at two_at one.0 two.0 in
          let found = c.in_ok-notes.ensures.done.steps 11 [] no_limit no_offset all_notes clean two.0.inside (stands_store old two_at both store) in
          let free = subst (λ (d : Database). AreFree c.args.from c.args.tab d.trees) one.0.now (two.2 c.if-not-branch-2.false) in
          let all = noted_shown two_at new notes.items (stands_store old two_at both store) found.2 ∙ all_kept name_cmp _ in (
            stands_then old two_at new both found.0,
            one.1,
            (
              free,
              record {
                all = subst (λ (d : Database). map found_note notes.items ≡ keyed name_cmp (map note_entry (d.trees 11))) both.now all;
                few = rw c.as_slice.ensures.value at are.0;
              },
            ),
          );
      stays = stays_more (stays_then g.S.Store IsPlainFault _ _ _ _ _ c.has_many.ensures.done.stays c.is_alone.ensures.done.stays) c.look.ensures.done.stays (search rules);
    }

pub returns-else-are_short-clause-done : goal.returns-else-are_short-clause-done
returns-else-are_short-clause-done g c =
    let old = state g.S.Store c.args.tx.now.conn.now in
    let one_at = state g.S.Store c.has_many.new.tx.conn.now in
    let two_at = state g.S.Store c.is_alone.new.tx.conn.now in
    let new = state g.S.Store c.look.new.tx.conn.now in
    record {
      steps = λ clean inside store.
          let clean_2 : HasCleanDisk two_at = omega (arith, c.look.ensures.done.stays.survives.clean, clean) in
          let clean_1 : HasCleanDisk one_at = omega (arith, c.is_alone.ensures.done.stays.survives.clean, clean_2) in
          let one = c.in_ok-has_many.ensures.done.steps clean_1 inside store in
          let two = (simp (to_z-of_z, c.ranges.tab) at c.in_ok-is_alone.ensures.done.steps) clean_2 one.0.inside (stands_store old one_at one.0 store) in
          let both = stands_then old one_at two_at one.0 two.0 in
          let found = c.in_ok-notes.ensures.done.steps 11 [] no_limit no_offset all_notes clean two.0.inside (stands_store old two_at both store) in
          (stands_then old two_at new both found.0, one.1, tt);
      stays = stays_more (stays_then g.S.Store IsPlainFault _ _ _ _ _ c.has_many.ensures.done.stays c.is_alone.ensures.done.stays) c.look.ensures.done.stays (search rules);
    }
