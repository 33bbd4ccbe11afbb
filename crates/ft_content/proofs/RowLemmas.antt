-- A content is read back from its rows.
use Rattle.std.proofs.Common.{◌≡◌, ℕ, ◌+◌, true, false, cond, not, ◌&&◌, ◌||◌, ◌≤◌, nat_abs, List, [], ◌∷◌, ◌++◌, map, length, ◌==◌, ◌<◌, ℤ, pos, refl, sym, ap, subst, ◌∙◌, arith, eqb-true, ltb-true, nat_lt, nat_le}
use Rattle.ft_content.proofs.Common.{list_any, list_all, flat_map, enumerate_from, Ordering, Less, Equal, Greater, int_cmp, int_eq, is_eq, is_lt, int_cmp_total, tied_itself, Equal-is, eq_by_cmp_equiv, int_cmp-IsAntisymmetric, below_all, is_sorted, and_parts, false_from_ne_true, Cell, Documents, CellRow, is_document, is_name, names_of, skipped_from, document_rows, with_cell, content_in, RowsAreRead, ContentsAreOne}
use Rattle.ft_content.specs.Content.{Column, gathered}

below_apart : (o : Ordering) → is_lt o ≡ true → is_eq o ≡ false
below_apart Less h = refl
below_apart Equal h = absurd (let no = h in cc)
below_apart Greater h = refl

abbrev rows_from : ℕ → ℤ → List Cell → List CellRow
rows_from k docid cells = map (λ (c : ℕ × Cell). record { docid = docid; column = pos c.0; value = c.1 }) (enumerate_from k cells)

-- a cell before the rows of later documents begins a document
begins : (row : CellRow) (ds : Documents) → below_all int_cmp row.docid ds ≡ true → with_cell row ds ≡ (row.docid, row.value ∷ []) ∷ ds
begins row [] h = refl
begins row (d ∷ ds) h = ap (λ b. cond b ((d.0, row.value ∷ d.1) ∷ ds) ((row.docid, row.value ∷ []) ∷ d ∷ ds)) (below_apart (int_cmp row.docid d.0) (and_parts (is_lt (int_cmp row.docid d.0)) (below_all int_cmp row.docid ds) h).0)

gathers_one : (k : ℕ) (docid : ℤ) (cell : Cell) (cells : List Cell) (rest : List CellRow) (ds : Documents) → gathered rest ≡ ds → below_all int_cmp docid ds ≡ true → gathered (rows_from k docid (cell ∷ cells) ++ rest) ≡ (docid, cell ∷ cells) ∷ ds
unfolding gathered
gathers_one k docid cell [] rest ds read below = ap (with_cell (record { docid = docid; column = pos k; value = cell })) read ∙ begins (record { docid = docid; column = pos k; value = cell }) ds below
gathers_one k docid cell (next ∷ cells) rest ds read below =
    ap (with_cell (record { docid = docid; column = pos k; value = cell })) (gathers_one (k + 1) docid next cells rest ds read below)
    ∙ ap (λ o. cond (is_eq o) ((docid, cell ∷ next ∷ cells) ∷ ds) ((docid, cell ∷ []) ∷ (docid, next ∷ cells) ∷ ds)) (tied_itself int_cmp_total docid)

gathers_all : (width : ℕ) (documents : Documents) → 0 < width → list_all (is_document width) documents ≡ true → is_sorted int_cmp documents ≡ true → gathered (flat_map document_rows documents) ≡ documents
unfolding gathered
gathers_all width [] some h sorted = refl
gathers_all width (d ∷ ds) some h sorted =
    let parts = and_parts (is_document width d) (list_all (is_document width) ds) h in
    let order = and_parts (below_all int_cmp d.0 ds) (is_sorted int_cmp ds) sorted in
    let width_is = eqb-true (length d.1) width (and_parts (length d.1 == width) _ parts.0).0 in
    first d.0 d.1 (subst (λ n. 0 < n) (sym width_is) some) ds order.0 (gathers_all width ds some parts.1 order.1)
  where
    first : (docid : ℤ) (cells : List Cell) → 0 < length cells → (ds : Documents) → below_all int_cmp docid ds ≡ true → gathered (flat_map document_rows ds) ≡ ds → gathered (rows_from 0 docid cells ++ flat_map document_rows ds) ≡ (docid, cells) ∷ ds
    first docid [] some ds below read = absurd (omega (arith, some))
    first docid (cell ∷ cells) some ds below read = gathers_one 0 docid cell cells (flat_map document_rows ds) ds read below

numbers_apart : (j k : ℕ) → j < k → int_eq (pos j) (pos k) ≡ false
numbers_apart j k h = false_from_ne_true (int_eq (pos j) (pos k)) (λ same. let e : j ≡ k = ap (λ z. nat_abs z) (int_cmp-IsAntisymmetric (pos j) (pos k) ((Equal-is (int_cmp (pos j) (pos k))).0 same)) in omega arith)

-- columns before k are not among those skipped from k on
none_before : (j k : ℕ) (columns : List Column) → j < k → list_any (int_eq (pos j)) (skipped_from k columns) ≡ false
none_before j k [] h = refl
none_before j k (column ∷ columns) h = elim column.indexed as (λ b. list_any (int_eq (pos j)) (cond b (skipped_from (k + 1) columns) (pos k ∷ skipped_from (k + 1) columns)) ≡ false) [
  | true ↦ none_before j (k + 1) columns (omega arith)
  | false ↦ λ i. numbers_apart j k h i || none_before j (k + 1) columns (omega arith) i
]

columns_back : (k : ℕ) (columns : List Column) (skipped : List ℤ) → ((j : ℕ) → k ≤ j → list_any (int_eq (pos j)) skipped ≡ list_any (int_eq (pos j)) (skipped_from k columns)) →
    map (λ (c : ℤ × List ℕ). record { name = c.1; indexed = not (list_any (int_eq c.0) skipped) }) (map (λ (c : ℕ × Column). (pos c.0, c.1.name)) (enumerate_from k columns)) ≡ columns
columns_back k [] skipped h = refl
columns_back k (column ∷ columns) skipped h =
    let here : not (list_any (int_eq (pos k)) skipped) ≡ column.indexed = ap not (h k (omega arith))
    ∙ elim column.indexed as (λ b. not (list_any (int_eq (pos k)) (cond b (skipped_from (k + 1) columns) (pos k ∷ skipped_from (k + 1) columns))) ≡ b) [
      | true ↦ ap not (none_before k (k + 1) columns (omega arith))
      | false ↦ ap (λ o. not (is_eq o || list_any (int_eq (pos k)) (skipped_from (k + 1) columns))) (tied_itself int_cmp_total (pos k))
    ] in
    let rest = columns_back (k + 1) columns skipped (λ j le. h j (omega arith) ∙ elim column.indexed as (λ b. list_any (int_eq (pos j)) (cond b (skipped_from (k + 1) columns) (pos k ∷ skipped_from (k + 1) columns)) ≡ list_any (int_eq (pos j)) (skipped_from (k + 1) columns)) [
      | true ↦ refl
      | false ↦ ap (λ b. b || list_any (int_eq (pos j)) (skipped_from (k + 1) columns)) ((eq_by_cmp_equiv int_cmp_total).symm (pos j) (pos k) ∙ numbers_apart k j (omega arith))
    ]) in
    λ i. record { name = column.name; indexed = here i } ∷ rest i

pub rows_are_read : RowsAreRead
rows_are_read table content h =
    let names = names_of content.columns in
    let a = and_parts (nat_lt 0 (length content.columns) && nat_le (length content.columns) 100 && list_all is_name names) _ h.columns in
    let b = and_parts (nat_lt 0 (length content.columns) && nat_le (length content.columns) 100) _ a.0 in
    let some = ltb-true 0 (length content.columns) (and_parts (nat_lt 0 (length content.columns)) _ b.0).0 in
    λ i. record { columns = columns_back 0 content.columns (skipped_from 0 content.columns) (λ j h. refl) i; documents = gathers_all (length content.columns) content.documents some h.documents h.rising i }

pub contents_are_one : ContentsAreOne
contents_are_one table one other h g same = sym (rows_are_read table one h) ∙ ap content_in same ∙ rows_are_read table other g
