-- one document more, and the index of all
use Rattle.std.proofs.Common.{◌≡◌, [], ◌∷◌, List, ℤ, map, sym, ap, subst, ◌∙◌, rules, to_z, of_z, w64, map-id}
use Rattle.ft_content.proofs.{rows_are_read}
use Rattle.ft_documents.proofs.Common.{YieldsList-from_vec, YieldsList-end, map-append, Content, CellRow, Column, Documents, gathered, index_rows, content_with, column_of, shown_document, AddsDocuments, lists_joined_by, sizes_with, index_lists_of, sized, HaveContent, shown_row}
use Rattle.ft_documents.proofs.IndexOf.{lists_with-append, sizes_with-append, lists_made, sizes_made}
use Rattle.ft_documents.proofs.RowKinds.{stored_sizes}
use Rattle.ft_documents.proofs.standing_index.index_lists.Goals as goal

-- the documents of a content
are_documents : (content : Content) (columns : List Column) (rows : List CellRow) → HaveContent columns rows content → gathered rows ≡ content.documents
are_documents content columns rows have = ap gathered have.cells_are ∙ ap (λ (c : Content). c.documents) (rows_are_read have.name content have.is_content)

sizes_are : (content : Content) (columns : List Column) (rows : List CellRow) (documents : Documents) (own : List ((ℤ × ℤ) × ℤ)) → HaveContent columns rows content → documents ≡ gathered rows → own ≡ sizes_with columns documents [] → own ≡ sized (index_rows content).sizes
sizes_are content columns rows documents own have are is =
    is ∙ ap (λ ds. sizes_with columns ds []) (are ∙ are_documents content columns rows have) ∙ sizes_made columns content.documents
    ∙ sym (stored_sizes columns content.documents have.is_content.rising) ∙ ap (λ cs. sized (index_rows (content_with cs content.documents)).sizes) (sym have.columns_are)

lists_are : (content : Content) (columns : List Column) (rows : List CellRow) (documents : Documents) → HaveContent columns rows content → documents ≡ gathered rows → lists_joined_by columns documents [] ≡ (index_rows content).lists
lists_are content columns rows documents have are =
    ap (λ ds. lists_joined_by columns ds []) (are ∙ are_documents content columns rows have) ∙ lists_made columns content.documents ∙ ap (λ cs. index_lists_of cs content.documents) (sym have.columns_are)

pub loop-document-preserved-in_ok-add : goal.loop-document-preserved-in_ok-add
loop-document-preserved-in_ok-add c =
    let columns = map column_of c.args.columns.now in
    let before = map shown_document c.loop-document.yielded in
    let d = shown_document c.in-Some.document in
    let docid : to_z w64 (of_z w64 d.0) ≡ d.0 = search rules in
    let adds : AddsDocuments columns (d ∷ []) c.loop-document.index c.add.new.self = subst (λ n. AddsDocuments columns ((n, d.1) ∷ []) c.loop-document.index c.add.new.self) docid c.in_ok-add.ensures in
    let so_far = c.loop-document.invariant in
    let more = sym (map-append shown_document c.loop-document.yielded (c.in-Some.document ∷ [])) in (
      adds.lists ∙ ap (lists_joined_by columns (d ∷ [])) so_far.0 ∙ sym (lists_with-append columns before (d ∷ []) []) ∙ ap (λ ds. lists_joined_by columns ds []) more,
      adds.sizes ∙ ap (sizes_with columns (d ∷ [])) so_far.1 ∙ sym (sizes_with-append columns before (d ∷ []) []) ∙ ap (λ ds. sizes_with columns ds []) more,
    )

pub returns-then-not-are_sizes : goal.returns-then-not-are_sizes
returns-then-not-are_sizes c = λ content have same.
    let columns = map column_of c.args.columns.now in
    let all : c.loop-document.yielded ≡ c.in_ok-document-items.document-items.items = sym (map-id c.loop-document.yielded) ∙ (YieldsList-end (YieldsList-from_vec {s = c.into_iter-document-iterator.result} c.in_ok-document-items.document-items.items (search rules) (search rules)) c.loop-document.yielded c.loop-document.document-iterator c.loop-document.yielded_by _ c.next.new.self c.in-None.is c.next.ensures.steps).0 in
    let sizes = sizes_are content columns (map shown_row c.args.cells.items) (map shown_document c.loop-document.yielded) _ have (ap (map shown_document) all ∙ c.in_ok-document-items.ensures) c.loop-document.invariant.1 in
    absurd (let no = sym (c.are_sizes.ensures.1 (same ∙ sym sizes)) ∙ c.if-not-are_sizes.true in cc)

pub returns : goal.returns
returns c = λ content have.
    let columns = map column_of c.args.columns.now in
    let rows = map shown_row c.args.cells.items in
    let documents = map shown_document c.loop-document.yielded in
    let all : c.loop-document.yielded ≡ c.in_ok-document-items.document-items.items = sym (map-id c.loop-document.yielded) ∙ (YieldsList-end (YieldsList-from_vec {s = c.into_iter-document-iterator.result} c.in_ok-document-items.document-items.items (search rules) (search rules)) c.loop-document.yielded c.loop-document.document-iterator c.loop-document.yielded_by _ c.next.new.self c.in-None.is c.next.ensures.steps).0 in
    let are = ap (map shown_document) all ∙ c.in_ok-document-items.ensures in (
      c.are_sizes.ensures.0 c.if-not-are_sizes.false ∙ sizes_are content columns rows documents _ have are c.loop-document.invariant.1,
      c.in_ok-term_lists.ensures ∙ c.loop-document.invariant.0 ∙ lists_are content columns rows documents have are,
    )
