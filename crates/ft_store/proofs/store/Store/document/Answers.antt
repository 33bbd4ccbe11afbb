use Rattle.std.proofs.Common.{rules, sym, subst, ◌∙◌, arith, to_z-of_z}
use Rattle.ft_store.proofs.Common.{IsPlain, understood, state}
use Rattle.ft_store.proofs.Texts.{document_text, document_means}
use Rattle.ft_store.proofs.AnswerLemmas.{document_shown, document_blamed}
use Rattle.ft_store.proofs.store.Store.document.Goals as goal

pub select-requires : goal.select-requires
select-requires g c = record { settled = c.self.invariant.settled; shown = λ clean is_open. subst (λ s. IsPlain (understood s document_text)) (sym (c.self.invariant.store clean is_open).schema) document_means.plain }

pub returns-clause-rows : goal.returns-clause-rows
returns-clause-rows g c = λ clean.
    let old = state g.S.Store c.self.inside.conn in
    let new = state g.S.Store c.select.new.conn in
    let store = c.self.invariant.store (omega (arith, c.select.ensures.given.read.survives.clean)) in
    let found = c.in_ok-found.found in
    let h = c.in_ok-found.ensures.given.rows clean in
    rw (sym c.self.view_is) (h.2 c.args.tab ∙ document_shown c.args.tab c.args.docid old new h.0 store (simp (to_z-of_z, c.ranges.tab, c.ranges.docid) at (rw (c.params-to_sql.ensures, c.params-to_sql-2.ensures) at h.1)))

pub returns-in_err-found-clause-refused : goal.returns-in_err-found-clause-refused
returns-in_err-found-clause-refused g c = λ clean is.
    let old = state g.S.Store c.self.inside.conn in
    let new = state g.S.Store c.select.new.conn in
    let why = c.select.ensures.refused clean (search rules) in
    rw (sym c.self.view_is) (document_blamed c.args.tab c.args.docid old new (c.self.invariant.store (omega (arith, c.select.ensures.given.read.survives.clean, clean))) (simp (to_z-of_z, c.ranges.tab, c.ranges.docid) at (rw (c.params-to_sql.ensures, c.params-to_sql-2.ensures) at why)))
