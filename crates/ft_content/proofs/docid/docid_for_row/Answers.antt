-- after the last docid
use Rattle.std.proofs.Common.{to_z, of_z, ◌≡◌, List, [], ◌∷◌, Option, Some, None, ℤ, pos, sym, ap, subst, ◌∙◌, rules, ◌+ℤ◌, FitsSigned, slice_get, ok_or}
use Rattle.ft_content.proofs.Common.{SomeIff, w64, Cell, Documents, append_document, insert_row, next_docid, placed}
use Rattle.ft_content.proofs.DocidLemmas.{next_after, next_is, stepped}
use Rattle.ft_values.specs.declared.fault.Fault.TheVariants as faults
use Rattle.ft_content.proofs.docid.docid_for_row.Goals as goal

appended : (documents : Documents) (docids : List ℤ) (cells : List Cell) (next : Option ℤ) → slice_get docids 0 ≡ None → next_docid documents ≡ next →
    insert_row documents docids cells ≡ placed documents cells (ok_or next faults.DocidFull)
appended documents [] cells None none is = ap (λ (o : Option ℤ). append_document documents o cells) is
appended documents [] cells (Some docid) none is = ap (λ (o : Option ℤ). append_document documents o cells) is
appended documents (docid ∷ docids) cells next none is = absurd (let no = none in cc)

pub returns-in-Some-last : goal.returns-in-Some-last
returns-in-Some-last c = λ documents docids cells same first taken.
    let last = c.in-Some-last.last in
    let fits : FitsSigned w64 c.in-Some-last.last = search rules in
    let back : to_z w64 (of_z w64 c.in-Some-last.last) ≡ c.in-Some-last.last = search rules in
    let next = stepped last c.checked_add.result fits (subst (λ (d : ℤ). SomeIff c.checked_add.result (FitsSigned w64 (d +ℤ pos 1)) (d +ℤ pos 1)) back c.checked_add.ensures) in
    appended documents docids cells c.checked_add.result (first ∙ c.in-None.is) (next_is documents ∙ ap next_after (same ∙ c.in-Some-last.is) ∙ sym next) ∙ ap (placed documents cells) (sym c.ok_or.ensures.value)

pub returns-in-None-last : goal.returns-in-None-last
returns-in-None-last c = λ documents docids cells same first taken.
    appended documents docids cells (Some (pos 1)) (first ∙ c.in-None.is) (next_is documents ∙ ap next_after (same ∙ c.in-None-last.is))
