use Rattle.std.proofs.Common.{sym, subst, ◌∙◌, arith, to_z-of_z}
use Rattle.ft_store.proofs.Common.{IsPlain, understood, state, IfOk-weaker, AreWhole}
use Rattle.ft_store.proofs.Texts.{term_text, term_means}
use Rattle.ft_store.proofs.AnswerLemmas.{term_shown, term_blamed}
use Rattle.ft_store.proofs.EntryLemmas.{whole_bare, bare_whole}
use Rattle.ft_store.proofs.lists.term_lists.Goals as goal

pub select_lists-requires : goal.select_lists-requires
select_lists-requires g c = record { settled = c.requires.settled; shown = λ clean is_open. subst (λ s. IsPlain (understood s term_text)) (sym (c.requires.store clean is_open).schema) term_means.plain }

pub returns-clause-given : goal.returns-clause-given
returns-clause-given g c = record {
  rows = λ clean.
      let old = state g.S.Store c.args.conn.now in
      let new = state g.S.Store c.select_lists.new.conn in
      let store = c.requires.store (omega (arith, c.select_lists.ensures.given.read.survives.clean)) in
      IfOk-weaker c.select_lists.result _ _
      (λ found h. let shown = term_shown c.args.tab c.args.term.now old new h.0 store (simp (to_z-of_z, c.ranges.tab) at (rw (c.params-to_sql.ensures, c.params-to_sql-2.ensures) at h.1)) in (h.2.0 ∙ shown, bare_whole _ (subst AreWhole shown h.2.1)))
      (c.select_lists.ensures.given.rows clean);
  damaged = λ clean is whole.
      let old = state g.S.Store c.args.conn.now in
      let new = state g.S.Store c.select_lists.new.conn in
      let store = c.requires.store (omega (arith, c.select_lists.ensures.given.read.survives.clean)) in
      let h = c.select_lists.ensures.given.damaged clean is in
      let shown = term_shown c.args.tab c.args.term.now old new h.0 store (simp (to_z-of_z, c.ranges.tab) at (rw (c.params-to_sql.ensures, c.params-to_sql-2.ensures) at h.1)) in
      h.2 (subst AreWhole (sym shown) (whole_bare _ whole));
  stays = c.select_lists.ensures.given.stays;
  read = c.select_lists.ensures.given.read;
}

pub returns-clause-refused : goal.returns-clause-refused
returns-clause-refused g c = λ clean is.
    term_blamed c.args.tab c.args.term.now (state g.S.Store c.args.conn.now) (state g.S.Store c.select_lists.new.conn) (c.requires.store (omega (arith, c.select_lists.ensures.given.read.survives.clean, clean)))
    (simp (to_z-of_z, c.ranges.tab) at (rw (c.params-to_sql.ensures, c.params-to_sql-2.ensures) at (c.select_lists.ensures.refused clean is)))
