use Rattle.std.proofs.Common.{◌≡◌, ◌<◌, ◌≤◌, ◌+◌, ◌∷◌, [], true, false, cond, subst, map, option_map, drop, length, min, sym, ap, ◌∙◌, to_z-of_z, arith}
use Rattle.ft_documents.proofs.Common.{length-map, All-nil, All-cons, tokens_of, shown_value, column_key_cmp, cell_text, cell_tokens, document_tokens, cells_of, column_of, document_if, AddsDocuments, lists_in, sizes_in, with_entries, cell_entries, cell_sizes, sized, all_put, IsShortNumber, AreShortNumbers}
use Rattle.ft_documents.proofs.Steps.{mapped_more}
use Rattle.ft_documents.proofs.IndexOf.{entries_from, sizes_from, lists_more, sizes_more, none_left}
use Rattle.ft_documents.proofs.document_index.DocumentIndex.add.Goals.{then-columns-place+in_ok-add_cell, else-columns-place}
use Rattle.ft_documents.proofs.document_index.DocumentIndex.add.Goals as goal

pub loop-place-preserved : goal.loop-place-preserved
loop-place-preserved c =
    let t = to_z-of_z c.ranges.docid in
    let place = c.loop-place.place in
    let column = c.index-columns-place.result in
    let value = c.index-values-place.result in
    let columns = map column_of c.args.columns.now in
    let cells = map shown_value c.as_slice-values.result.now in
    let tokens = cell_tokens (column_of column) (shown_value value) in
    let rest = document_tokens (drop (place + 1) columns) (drop (place + 1) cells) in
    let old = c.loop-place.self in
    let new = c.if-columns-place.self in
    let one : place < length c.args.columns.now = omega (arith, c.loop-place-test.true, c.min-place-end.ensures) in
    let other : place < length c.as_slice-values.result.now = omega (arith, c.loop-place-test.true, c.min-place-end.ensures) in
    let left : document_tokens (drop place columns) (drop place cells) ≡ tokens ∷ rest =
    mapped_more (λ cs. document_tokens cs (drop place cells)) column_of c.args.columns.now place column one c.index-columns-place.is
    ∙ mapped_more (λ vs. document_tokens (column_of column ∷ drop (place + 1) columns) vs) shown_value c.as_slice-values.result.now place value other c.index-values-place.is in
    let same = ap (λ x. x.indexed) c.index-columns-place.is in
    let adds : (lists_in new ≡ with_entries (cell_entries c.args.docid place tokens) (lists_in old)) × (sizes_in new ≡ all_put column_key_cmp (sized (cell_sizes c.args.docid place (length tokens))) (sizes_in old)) × (column.indexed ≡ true → IsShortNumber (shown_value value)) =
    elim c.if-columns-place.branch [
      | then-columns-place+in_ok-add_cell w ↦ (
        ap lists_in w.self-is ∙ w.in_ok-add_cell.ensures.lists ∙ (λ i. with_entries (cell_entries (t i) place (tokens_of (cond (sym (same ∙ w.if-columns-place.true) i) (cell_text (shown_value value)) []))) (lists_in old)),
        ap sizes_in w.self-is ∙ w.in_ok-add_cell.ensures.sizes ∙ (λ i. all_put column_key_cmp (sized (cell_sizes (t i) place (length (tokens_of (cond (sym (same ∙ w.if-columns-place.true) i) (cell_text (shown_value value)) []))))) (sizes_in old)),
        (λ _. w.in_ok-add_cell.ensures.number),
      )
      | else-columns-place w ↦ (
        ap lists_in w.self-is ∙ (λ i. with_entries (cell_entries c.args.docid place (tokens_of (cond (sym (same ∙ w.if-columns-place.false) i) (cell_text (shown_value value)) []))) (lists_in old)),
        ap sizes_in w.self-is ∙ (λ i. all_put column_key_cmp (sized (cell_sizes c.args.docid place (length (tokens_of (cond (sym (same ∙ w.if-columns-place.false) i) (cell_text (shown_value value)) []))))) (sizes_in old)),
        (λ is. absurd (let no : false ≡ true = sym w.if-columns-place.false ∙ sym same ∙ is in cc)),
      )
    ] in
    let first_column = mapped_more (λ cs. cs) column_of c.args.columns.now place column one c.index-columns-place.is in
    let first_cell = mapped_more (λ vs. vs) shown_value c.as_slice-values.result.now place value other c.index-values-place.is in
    let so_far = rw t at c.loop-place.invariant in
    rw t (
      lists_more c.args.docid place tokens rest (lists_in old) (lists_in new) _ adds.0 (ap (λ ts. with_entries (entries_from c.args.docid place ts) (lists_in old)) (sym left) ∙ so_far.0),
      sizes_more c.args.docid place tokens rest (sizes_in old) (sizes_in new) _ adds.1 (ap (λ ts. all_put column_key_cmp (sizes_from c.args.docid place ts) (sizes_in old)) (sym left) ∙ so_far.1),
      (λ rest. c.loop-place.invariant.2 (subst (λ cs. AreShortNumbers cs (drop place cells)) (sym first_column) (subst (λ vs. AreShortNumbers (column_of column ∷ drop (place + 1) columns) vs) (sym first_cell) (adds.2, rest)))),
    )

pub returns : goal.returns
returns c =
    let t = to_z-of_z c.ranges.docid in
    let columns = map column_of c.args.columns.now in
    let cells = map shown_value c.as_slice-values.result.now in
    let past : min (length columns) (length cells) ≤ c.loop-place.place = rw (length-map c.args.columns.now column_of, length-map c.as_slice-values.result.now shown_value) (omega (arith, c.loop-place-test.false, c.min-place-end.ensures)) in
    let none = none_left c.loop-place.place columns cells past in
    let so_far = rw t at c.loop-place.invariant in
    let made : AddsDocuments columns ((c.args.docid, cells) ∷ []) c.args.self.now c.loop-place.self = record {
      lists = ap (λ left. with_entries (entries_from c.args.docid c.loop-place.place left) (lists_in c.loop-place.self)) (sym none.0) ∙ so_far.0;
      sizes = ap (λ left. all_put column_key_cmp (sizes_from c.args.docid c.loop-place.place left) (sizes_in c.loop-place.self)) (sym none.0) ∙ so_far.1;
      numbers = All-cons (λ d. AreShortNumbers columns d.1) (c.args.docid, cells) [] (c.loop-place.invariant.2 none.1) (All-nil (λ d. AreShortNumbers columns d.1));
    } in
    subst (λ o. AddsDocuments columns (document_if c.args.docid (option_map cells_of o)) c.args.self.now c.loop-place.self) (sym c.in-Some.is)
    (subst (λ vs. AddsDocuments columns ((c.args.docid, map shown_value vs) ∷ []) c.args.self.now c.loop-place.self) c.as_slice-values.ensures.value made)
