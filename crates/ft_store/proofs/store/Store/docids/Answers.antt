use Rattle.std.proofs.Common.{rules, FitsSigned, w64, sym, subst, ◌∙◌, arith, to_z-of_z}
use Rattle.ft_store.proofs.Common.{IsPlain, understood, state}
use Rattle.ft_store.proofs.Texts.{docids_text, docids_means}
use Rattle.ft_store.proofs.FoundLemmas.{numbers_in}
use Rattle.ft_store.proofs.LastLemmas.{docids_shown}
use Rattle.ft_store.proofs.AnswerLemmas.{docids_blamed}
use Rattle.ft_store.proofs.store.Store.docids.Goals as goal

pub select-requires : goal.select-requires
select-requires g c = record { settled = c.self.invariant.settled; shown = λ clean is_open. subst (λ s. IsPlain (understood s docids_text)) (sym (c.self.invariant.store clean is_open).schema) docids_means.plain }

pub returns-clause-rows : goal.returns-clause-rows
returns-clause-rows g c = λ clean.
    let old = state g.S.Store c.self.inside.conn in
    let new = state g.S.Store c.select.new.conn in
    let store = c.self.invariant.store (omega (arith, c.select.ensures.given.read.survives.clean)) in
    let found = c.in_ok-found.found in
    let h = c.in_ok-found.ensures.given.rows clean in
    let fits : FitsSigned w64 c.row_limit-limit.result = search rules in
    rw (sym c.self.view_is) (numbers_in found.items h.0 (h.2 c.args.tab)
    ∙ docids_shown c.args.tab c.row_limit-limit.result c.args.offset c.args.most c.row_limit-limit.ensures old new h.0 store (simp (to_z-of_z, c.ranges.tab, fits) at (rw (c.params-to_sql.ensures, c.params-to_sql-2.ensures, c.params-to_sql-3.ensures) at h.1)))

pub returns-in_err-found-clause-refused : goal.returns-in_err-found-clause-refused
returns-in_err-found-clause-refused g c = λ clean is.
    let old = state g.S.Store c.self.inside.conn in
    let new = state g.S.Store c.select.new.conn in
    let fits : FitsSigned w64 c.row_limit-limit.result = search rules in
    let why = c.select.ensures.refused clean (search rules) in
    rw (sym c.self.view_is) (docids_blamed c.args.tab c.row_limit-limit.result _ old new (c.self.invariant.store (omega (arith, c.select.ensures.given.read.survives.clean, clean))) (simp (to_z-of_z, c.ranges.tab, fits) at (rw (c.params-to_sql.ensures, c.params-to_sql-2.ensures, c.params-to_sql-3.ensures) at why)))
