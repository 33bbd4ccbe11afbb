-- one row more: the last document with its cell, or a document more
use Rattle.std.proofs.Common.{◌≡◌, ◌++◌, [], ◌∷◌, List, map, sym, ap, ◌∙◌, rules, FitsSigned, w64, to_z, of_z, to_z-of_z, arith}
use Rattle.ft_documents.proofs.Common.{map-append, Value, shown_value, gathered, shown_document, gathered_row, with_last}
use Rattle.ft_documents.specs.declared.documents.Document.{Document}
use Rattle.ft_documents.proofs.ReadRows.{joined, behind, first_of_all, gathered_more, gathered_none}
use Rattle.ft_documents.proofs.documents.gathered.Goals.{in-Some-pop+then-last-docid, in-Some-pop+else-last-docid+in_ok-push, in_default}
use Rattle.ft_documents.proofs.documents.gathered.Goals as goal

pub loop-row-init : goal.loop-row-init
loop-row-init c = ap (map shown_document) c.new-documents.ensures.items ∙ gathered_none

pub loop-row-preserved : goal.loop-row-preserved
loop-row-preserved c =
    let row = gathered_row c.in-Some.row in
    let fits : FitsSigned w64 c.in-Some.row.docid = search rules in
    let documents : List Document = c.match-pop.documents.items in
    let cells : List Value = c.match-pop.cells.items in
    let added : map shown_value c.push-in-loop-row.new.self.items ≡ map shown_value cells ++ row.value ∷ [] = ap (map shown_value) c.in_ok-push-2.ensures.items ∙ map-append shown_value cells (c.in-Some.row.value ∷ []) in
    let made : map shown_document c.push-in-loop-row-2.new.self.items ≡ map shown_document documents ++ (row.docid, map shown_value cells ++ row.value ∷ []) ∷ [] =
    ap (map shown_document) c.in_ok-push-3.ensures.items
    ∙ map-append shown_document documents (record { docid = to_z w64 (of_z w64 c.in-Some.row.docid); cells = c.push-in-loop-row.new.self } ∷ [])
    ∙ (λ i. map shown_document documents ++ (to_z-of_z fits i, added i) ∷ []) in
    let one : map shown_document c.push-in-loop-row-2.new.self.items ≡ with_last row (map shown_document c.loop-row.documents.items) =
    made ∙ (elim c.match-pop.branch [
      | in-Some-pop+then-last-docid w ↦
          let fits_last : FitsSigned w64 w.in-Some-pop.last.docid = search rules in
          (λ i. map shown_document (w.documents-is i).items ++ (row.docid, map shown_value (w.cells-is i).items ++ row.value ∷ []) ∷ [])
          ∙ joined row c.pop.new.self.items c.loop-row.documents.items w.in-Some-pop.last w.in-Some-pop.ensures.items (sym (to_z-of_z fits_last) ∙ ap (to_z w64) w.if-last-docid.true ∙ to_z-of_z fits)
      | in-Some-pop+else-last-docid+in_ok-push w ↦
          (λ i. map shown_document (w.documents-is i).items ++ (row.docid, map shown_value (w.cells-is i).items ++ row.value ∷ []) ∷ [])
          ∙ (λ i. map shown_document ((w.in_ok-push.ensures.items ∙ sym w.in-Some-pop.ensures.items) i) ++ (row.docid, map shown_value (c.new-cells.ensures.items i) ++ row.value ∷ []) ∷ [])
          ∙ behind row c.pop.new.self.items c.loop-row.documents.items w.in-Some-pop.last w.in-Some-pop.ensures.items (λ same. w.if-last-docid.false (ap (of_z w64) same))
      | in_default w ↦
          (λ i. map shown_document (w.documents-is i).items ++ (row.docid, map shown_value (w.cells-is i).items ++ row.value ∷ []) ∷ [])
          ∙ (λ i. map shown_document c.pop.new.self.items ++ (row.docid, map shown_value (c.new-cells.ensures.items i) ++ row.value ∷ []) ∷ [])
          ∙ first_of_all row c.pop.new.self.items c.loop-row.documents.items w.in_default.ensures.items (omega (arith, w.in_default.ensures.cases.0, c.loop-row.documents.ok.0))
    ]) in
    one ∙ ap (with_last row) c.loop-row.invariant
    ∙ sym (ap gathered (map-append gathered_row c.loop-row.yielded (c.in-Some.row ∷ [])) ∙ gathered_more (map gathered_row c.loop-row.yielded) row)
