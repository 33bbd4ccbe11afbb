use Rattle.std.proofs.Common.{rules, pos, sym, subst, ◌∙◌, arith}
use Rattle.ft_store.proofs.Common.{IsPlain, understood, state, name_cmp}
use Rattle.ft_store.proofs.Texts.{noted_text, noted_means}
use Rattle.ft_store.proofs.AnswerLemmas.{noted_shown, all_kept, noted_blamed}
use Rattle.ft_store.proofs.store.Store.noted.Goals as goal

pub select-requires : goal.select-requires
select-requires g c = record { settled = c.self.invariant.settled; shown = λ clean is_open. subst (λ s. IsPlain (understood s noted_text)) (sym (c.self.invariant.store clean is_open).schema) noted_means.plain }

pub returns-clause-rows : goal.returns-clause-rows
returns-clause-rows g c = λ clean.
    let old = state g.S.Store c.self.inside.conn in
    let new = state g.S.Store c.select.new.conn in
    let store = c.self.invariant.store (omega (arith, c.select.ensures.given.read.survives.clean)) in
    let found = c.in_ok-found.found in
    let h = c.in_ok-found.ensures.given.rows clean in
    rw (sym c.self.view_is) (h.2 (pos 0) ∙ noted_shown old new h.0 store h.1 ∙ all_kept name_cmp _)

pub returns-in_err-found-clause-refused : goal.returns-in_err-found-clause-refused
returns-in_err-found-clause-refused g c = λ texts clean is.
    let old = state g.S.Store c.self.inside.conn in
    let new = state g.S.Store c.select.new.conn in
    let why = c.select.ensures.refused clean (search rules) in
    rw (sym c.self.view_is) (noted_blamed old new (rw (← c.self.view_is) at texts) (c.self.invariant.store (omega (arith, c.select.ensures.given.read.survives.clean, clean))) why)
