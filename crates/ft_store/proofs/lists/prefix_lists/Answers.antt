use Rattle.std.proofs.Common.{[], ◌∷◌, ap, sym, subst, ◌∙◌, arith, to_z-of_z}
use Rattle.ft_store.proofs.Common.{IsPlain, understood, Int, Text, Shown, state, IfOk-weaker, AreWhole}
use Rattle.ft_store.specs.Range.{after_last, limit_of}
use Rattle.ft_store.proofs.RangeLemmas.{below_255, bound_limit}
use Rattle.ft_store.proofs.Texts.{bare_prefix_text, bare_prefix_means}
use Rattle.ft_store.proofs.AnswerLemmas.{bare_prefix_shown, bare_prefix_blamed}
use Rattle.ft_store.proofs.EntryLemmas.{whole_bare, bare_whole}
use Rattle.ft_store.proofs.lists.prefix_lists.Goals as goal

pub select_lists-requires : goal.select_lists-requires
select_lists-requires g c = record { settled = c.requires.settled; shown = λ clean is_open. subst (λ s. IsPlain (understood s bare_prefix_text)) (sym (c.requires.store clean is_open).schema) bare_prefix_means.plain }

pub after_last-requires : goal.after_last-requires
after_last-requires g c = below_255 c.as_bytes.result.now c.as_bytes.ensures.utf8

pub returns-clause-given : goal.returns-clause-given
returns-clause-given g c = record {
  rows = λ clean.
      let old = state g.S.Store c.args.conn.now in
      let new = state g.S.Store c.select_lists.new.conn in
      let ends = c.as_slice-end.ensures.value ∙ c.in_ok-end.ensures ∙ ap after_last c.as_bytes.ensures.value in
      let store = c.requires.store (omega (arith, c.select_lists.ensures.given.read.survives.clean)) in
      IfOk-weaker c.select_lists.result _ _
      (λ found h. let shown = bare_prefix_shown c.args.tab c.args.begin.now old new h.0 store (subst (λ e. Shown bare_prefix_text (Int c.args.tab ∷ Text c.args.begin.now ∷ limit_of e ∷ []) old new h.0) ends (simp (to_z-of_z, c.ranges.tab, bound_limit) at (rw (c.beside.ensures, c.text_beside.ensures, c.limit_of.ensures) at h.1))) in (h.2.0 ∙ shown, bare_whole _ (subst AreWhole shown h.2.1)))
      (c.select_lists.ensures.given.rows clean);
  damaged = λ clean is whole.
      let old = state g.S.Store c.args.conn.now in
      let new = state g.S.Store c.select_lists.new.conn in
      let ends = c.as_slice-end.ensures.value ∙ c.in_ok-end.ensures ∙ ap after_last c.as_bytes.ensures.value in
      let store = c.requires.store (omega (arith, c.select_lists.ensures.given.read.survives.clean)) in
      let h = c.select_lists.ensures.given.damaged clean is in
      let shown = bare_prefix_shown c.args.tab c.args.begin.now old new h.0 store (subst (λ e. Shown bare_prefix_text (Int c.args.tab ∷ Text c.args.begin.now ∷ limit_of e ∷ []) old new h.0) ends (simp (to_z-of_z, c.ranges.tab, bound_limit) at (rw (c.beside.ensures, c.text_beside.ensures, c.limit_of.ensures) at h.1))) in
      h.2 (subst AreWhole (sym shown) (whole_bare _ whole));
  stays = c.select_lists.ensures.given.stays;
  read = c.select_lists.ensures.given.read;
}

pub returns-clause-refused : goal.returns-clause-refused
returns-clause-refused g c = λ clean is.
    bare_prefix_blamed c.args.tab c.args.begin.now c.as_slice-end.result.now (state g.S.Store c.args.conn.now) (state g.S.Store c.select_lists.new.conn) (c.requires.store (omega (arith, c.select_lists.ensures.given.read.survives.clean, clean)))
    (simp (to_z-of_z, c.ranges.tab, bound_limit) at (rw (c.beside.ensures, c.text_beside.ensures, c.limit_of.ensures) at (c.select_lists.ensures.refused clean is)))
