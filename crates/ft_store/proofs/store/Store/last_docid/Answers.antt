use Rattle.std.proofs.Common.{rules, sym, subst, ◌∙◌, arith, to_z-of_z, ap, slice_get}
use Rattle.ft_store.proofs.Common.{IsPlain, understood, state}
use Rattle.ft_store.proofs.Texts.{last_text, last_means}
use Rattle.ft_store.proofs.LastLemmas.{last_shown}
use Rattle.ft_store.proofs.FoundLemmas.{first_number}
use Rattle.ft_store.proofs.AnswerLemmas.{last_blamed}
use Rattle.ft_store.proofs.store.Store.last_docid.Goals as goal

pub select-requires : goal.select-requires
select-requires g c = record { settled = c.self.invariant.settled; shown = λ clean is_open. subst (λ s. IsPlain (understood s last_text)) (sym (c.self.invariant.store clean is_open).schema) last_means.plain }

pub returns-clause-last : goal.returns-clause-last
returns-clause-last g c = λ clean.
    let old = state g.S.Store c.self.inside.conn in
    let new = state g.S.Store c.select.new.conn in
    let store = c.self.invariant.store (omega (arith, c.select.ensures.given.read.survives.clean)) in
    let found = c.in_ok-found.found in
    let h = c.in_ok-found.ensures.given.rows clean in
    let shown = last_shown c.args.tab old new h.0 store (simp (to_z-of_z, c.ranges.tab) at (rw c.params-to_sql.ensures at h.1)) in
    rw (sym c.self.view_is) (c.copied-last.ensures ∙ c.first.ensures.value ∙ ap (λ l. slice_get l 0) c.deref.ensures.value ∙ first_number found.items h.0 (h.2 c.args.tab) ∙ shown)

pub returns-in_err-found-clause-refused : goal.returns-in_err-found-clause-refused
returns-in_err-found-clause-refused g c = λ clean is.
    let old = state g.S.Store c.self.inside.conn in
    let new = state g.S.Store c.select.new.conn in
    let why = c.select.ensures.refused clean (search rules) in
    rw (sym c.self.view_is) (last_blamed c.args.tab old new (c.self.invariant.store (omega (arith, c.select.ensures.given.read.survives.clean, clean))) (simp (to_z-of_z, c.ranges.tab) at (rw c.params-to_sql.ensures at why)))
