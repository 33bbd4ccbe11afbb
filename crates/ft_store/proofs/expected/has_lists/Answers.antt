use Rattle.std.proofs.Common.{rules, ◌++◌, map, drop, sym, ap, subst, ◌∙◌, arith, to_z-of_z, int_eq}
use Rattle.ft_store.proofs.Common.{IsPlain, understood, state}
use Rattle.ft_rows.specs.Terms.{lists_by_terms}
use Rattle.ft_store.specs.Found.{found_places}
use Rattle.ft_store.proofs.Texts.{lists_text, lists_means}
use Rattle.ft_store.proofs.AnswerLemmas.{lists_stored_shown, placed, lists_blamed}
use Rattle.ft_store.proofs.ExpectedLemmas.{some_left, at_end, others_at_end}
use Rattle.ft_store.proofs.expected.has_lists.Goals as goal
use Rattle.ft_store.proofs.expected.has_lists.Goals.{then-whole, else-whole}

pub gather-requires-clause-asked : goal.gather-requires-clause-asked
gather-requires-clause-asked g c = record { settled = c.requires.settled; shown = λ clean is_open. subst (λ s. IsPlain (understood s lists_text)) (sym (c.requires.store clean is_open).schema) lists_means.plain }

pub returns-clause-given : goal.returns-clause-given
returns-clause-given g c = record {
  rows = λ clean.
      let old = state g.S.Store c.args.conn.now in
      let new = state g.S.Store c.gather.new.conn in
      let store = c.requires.store (omega (arith, c.gather.ensures.given.read.survives.clean)) in
      let h = c.in_ok-whole.ensures.given.rows clean in
      let tab = c.args.tab in
      let shown = placed old.now.trees tab (λ k. int_eq tab k.0) h.0 (lists_stored_shown tab old new h.0 store (simp (to_z-of_z, c.ranges.tab) at (rw c.params-to_sql.ensures at h.1))) in
      let terms = ap (lists_by_terms tab) c.in_ok-whole.ensures.expects in
      let made = h.2 tab in
      elim c.if-whole.branch [
        | then-whole w ↦
            let next = w.find_next in
            let so_far = rw w.if-whole.true at made in
            let found = ap (λ ls. map (found_places tab) h.0 ++ ls) (next.ensures.left tab) ∙ so_far ∙ terms in
            rw w.result-is (at_end (found_places tab) h.0 _ _ found _ _ _ next.result shown next.ensures.next (some_left tab (drop next.new.self.term next.new.self.terms.items) next.new.self.posting) (λ none. none tab))
        | else-whole w ↦ rw (w.result-is, w.if-whole.false) (others_at_end (found_places tab) h.0 _ _ shown (λ more e. (rw w.if-whole.false at made) more (e ∙ sym terms)))
      ];
  read = record { kept = c.in_ok-whole.ensures.given.read.kept; live = c.in_ok-whole.ensures.given.read.live; mode = c.in_ok-whole.ensures.given.read.mode; survives = c.in_ok-whole.ensures.given.read.survives; fault = search rules };
}

pub returns-in_err-whole-clause-refused : goal.returns-in_err-whole-clause-refused
returns-in_err-whole-clause-refused g c = λ clean is.
    lists_blamed c.args.tab (state g.S.Store c.args.conn.now) (state g.S.Store c.gather.new.conn) (c.requires.store (omega (arith, c.gather.ensures.given.read.survives.clean, clean)))
    (simp (to_z-of_z, c.ranges.tab) at (rw c.params-to_sql.ensures at (c.gather.ensures.refused clean (search rules))))
