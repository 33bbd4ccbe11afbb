use Rattle.std.proofs.Common.{[], ◌∷◌, ◌∙◌, ap, ◌≡◌, ◌&&◌, map, sym, subst, arith, to_z-of_z, nat_eq, int_eq}
use Rattle.ft_store.proofs.Common.{starts_with, IsPlain, understood, Int, Text, Shown, state, IfOk-weaker, shown_entry, entries_of}
use Rattle.ft_store.specs.Range.{after_last, limit_of}
use Rattle.ft_store.specs.Calls.{AreTold}
use Rattle.ft_store.proofs.RangeLemmas.{below_255, bound_limit}
use Rattle.ft_store.proofs.Texts.{prefix_text, prefix_means}
use Rattle.ft_store.proofs.AnswerLemmas.{prefix_stored_shown, placed, prefix_blamed}
use Rattle.ft_store.proofs.lists.prefix.Goals as goal

pub select_entries-requires : goal.select_entries-requires
select_entries-requires g c = record { settled = c.requires.settled; shown = λ clean is_open. subst (λ s. IsPlain (understood s prefix_text)) (sym (c.requires.store clean is_open).schema) prefix_means.plain }

pub after_last-requires : goal.after_last-requires
after_last-requires g c = below_255 c.as_bytes.result.now c.as_bytes.ensures.utf8

pub returns-clause-given : goal.returns-clause-given
returns-clause-given g c = record {
  rows = λ clean.
      let old = state g.S.Store c.args.conn.now in
      let new = state g.S.Store c.select_entries.new.conn in
      let ends = c.as_slice-end.ensures.value ∙ c.in_ok-end.ensures ∙ ap after_last c.as_bytes.ensures.value in
      let store = c.requires.store (omega (arith, c.select_entries.ensures.given.read.survives.clean)) in
      IfOk-weaker c.select_entries.result _ _
      (λ found h. let all = placed old.now.trees c.args.tab (λ k. int_eq c.args.tab k.0 && starts_with nat_eq k.1 c.args.begin.now) h.0 (prefix_stored_shown c.args.tab c.args.begin.now old new h.0 store (subst (λ e. Shown prefix_text (Int c.args.tab ∷ Text c.args.begin.now ∷ limit_of e ∷ []) old new h.0) ends (simp (to_z-of_z, c.ranges.tab, bound_limit) at (rw (c.beside.ensures, c.text_beside.ensures, c.limit_of.ensures) at h.1)))) in (subst (λ l. map shown_entry found.items ≡ entries_of l) all (h.2 c.args.tab).0, subst AreTold all (h.2 c.args.tab).1))
      (c.select_entries.ensures.given.rows clean);
  damaged = λ clean is.
      let old = state g.S.Store c.args.conn.now in
      let new = state g.S.Store c.select_entries.new.conn in
      let ends = c.as_slice-end.ensures.value ∙ c.in_ok-end.ensures ∙ ap after_last c.as_bytes.ensures.value in
      let store = c.requires.store (omega (arith, c.select_entries.ensures.given.read.survives.clean)) in
      let h = c.select_entries.ensures.given.damaged clean is in
      let all = placed old.now.trees c.args.tab (λ k. int_eq c.args.tab k.0 && starts_with nat_eq k.1 c.args.begin.now) h.0 (prefix_stored_shown c.args.tab c.args.begin.now old new h.0 store (subst (λ e. Shown prefix_text (Int c.args.tab ∷ Text c.args.begin.now ∷ limit_of e ∷ []) old new h.0) ends (simp (to_z-of_z, c.ranges.tab, bound_limit) at (rw (c.beside.ensures, c.text_beside.ensures, c.limit_of.ensures) at h.1)))) in
      subst (λ l. ¬ AreTold l) all (h.2 c.args.tab);
  stays = c.select_entries.ensures.given.stays;
  read = c.select_entries.ensures.given.read;
}

pub returns-clause-refused : goal.returns-clause-refused
returns-clause-refused g c = λ clean is.
    prefix_blamed c.args.tab c.args.begin.now c.as_slice-end.result.now (state g.S.Store c.args.conn.now) (state g.S.Store c.select_entries.new.conn) (c.requires.store (omega (arith, c.select_entries.ensures.given.read.survives.clean, clean)))
    (simp (to_z-of_z, c.ranges.tab, bound_limit) at (rw (c.beside.ensures, c.text_beside.ensures, c.limit_of.ensures) at (c.select_entries.ensures.refused clean is)))
