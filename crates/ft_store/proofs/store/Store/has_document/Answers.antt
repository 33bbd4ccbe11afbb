use Rattle.std.proofs.Common.{rules, not, ◌==◌, sym, ap, subst, ◌∙◌, arith, to_z-of_z}
use Rattle.ft_store.proofs.Common.{IsPlain, understood, state}
use Rattle.ft_store.proofs.Texts.{has_document_text, has_document_means}
use Rattle.ft_store.proofs.FoundLemmas.{some_number}
use Rattle.ft_store.proofs.LastLemmas.{some_row, document_found}
use Rattle.ft_store.proofs.AnswerLemmas.{has_document_blamed}
use Rattle.ft_store.proofs.store.Store.has_document.Goals as goal

pub select-requires : goal.select-requires
select-requires g c = record { settled = c.self.invariant.settled; shown = λ clean is_open. subst (λ s. IsPlain (understood s has_document_text)) (sym (c.self.invariant.store clean is_open).schema) has_document_means.plain }

pub returns-clause-there : goal.returns-clause-there
returns-clause-there g c = λ clean.
    let old = state g.S.Store c.self.inside.conn in
    let new = state g.S.Store c.select.new.conn in
    let store = c.self.invariant.store (omega (arith, c.select.ensures.given.read.survives.clean)) in
    let found = c.in_ok-found.found in
    let h = c.in_ok-found.ensures.given.rows clean in
    let shown = simp (to_z-of_z, c.ranges.tab, c.ranges.docid) at (rw (c.params-to_sql.ensures, c.params-to_sql-2.ensures) at h.1) in
    rw (sym c.self.view_is) (ap not (c.is_empty-is_there.ensures ∙ ap (λ n. n == 0) found.ok.0) ∙ some_row found.items ∙ some_number found.items h.0 (h.2 c.args.tab) ∙ document_found c.args.tab c.args.docid old new h.0 store shown)

pub returns-in_err-found-clause-refused : goal.returns-in_err-found-clause-refused
returns-in_err-found-clause-refused g c = λ clean is.
    let old = state g.S.Store c.self.inside.conn in
    let new = state g.S.Store c.select.new.conn in
    let why = c.select.ensures.refused clean (search rules) in
    rw (sym c.self.view_is) (has_document_blamed c.args.tab c.args.docid old new (c.self.invariant.store (omega (arith, c.select.ensures.given.read.survives.clean, clean))) (simp (to_z-of_z, c.ranges.tab, c.ranges.docid) at (rw (c.params-to_sql.ensures, c.params-to_sql-2.ensures) at why)))
