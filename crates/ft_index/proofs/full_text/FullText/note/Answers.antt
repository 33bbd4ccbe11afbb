-- a note changes no table
use Rattle.std.proofs.Common.{map, refl, subst, sym, is_ok}
use Rattle.ft_index.proofs.Common.{survives_weaker, shown_info, FullText, with_tables, shows}
use Rattle.ft_calls.specs.Kept.{Notes}
use Rattle.ft_calls.specs.Kept.{CommitsNote, Leaves}
use Rattle.ft_calls.proofs.{note_holds}
use Rattle.ft_index.proofs.Doing.{ok_then}
use Rattle.ft_index.proofs.full_text.FullText.note.Goals as goal

pub invariant_of-self : goal.invariant_of-self
invariant_of-self g c = λ up.
    let old = c.self.inside.store in
    let tables = map shown_info c.self.inside.tables.items in
    let changed = c.note_name-result.ensures.makes.changed in
    let before = c.self.invariant (changed.was_up tables tables up) in
    (before.0, note_holds g.S.Store (with_tables old tables) (with_tables c.note_name-result.new.store tables) c.args.name.now (is_ok c.note_name-result.result) before.0 (changed.value tables up) refl before.1)

pub returns : goal.returns
returns g c =
    let tables = map shown_info c.self.inside.tables.items in
    let new = with_tables c.note_name-result.new.store tables in
    let changed = c.note_name-result.ensures.makes.changed in
    record {
      noted = subst (λ (k : FullText g.row.S.Denot). Notes g.S.Store k c.args.name.now (is_ok c.note_name-result.result) new) c.self.view_is (record {
        was_up = λ up. changed.was_up tables tables up;
        noted = λ up. changed.value tables up;
        tables = refl;
      });
      leaves = subst (λ (k : FullText g.row.S.Denot). Leaves g.S.Store k new (is_ok c.note_name-result.result) (CommitsNote g.S.Store k c.args.name.now)) c.self.view_is (record {
        live = λ clean done. ok_then c.note_name-result.result (c.note_name-result.ensures.makes.live clean) done;
        settled = λ up. c.is_settled.ensures up.clean up.is_open;
        survives = survives_weaker (shows g.S.Store c.self.inside.store) (shows g.S.Store c.note_name-result.new.store) _ _ (λ clean db commits. (record { clean = commits.0.clean; is_open = commits.0.is_open }, λ up. commits.1)) c.note_name-result.ensures.makes.crash;
      });
      fault = c.note_name-result.ensures.makes.cause;
      refused = λ clean told. rw (sym c.self.view_is) (c.note_name-result.ensures.refused clean told);
    }
