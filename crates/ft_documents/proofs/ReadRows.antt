-- Documents out of the rows of their cells.
use Rattle.std.proofs.Common.{◌≡◌, ℕ, suc, ◌+◌, Bool, true, false, cond, ◌&&◌, ◌==◌, List, [], ◌∷◌, ◌++◌, map, length, Option, Some, None, ℤ, pos, refl, sym, ap, ◌∙◌, arith, eqb-true, append-nil, filter, reverse, slice_get, option_map, is_some, unwrap_or, nat_lt, nat_le, not, flat_map, int_cmp, int_eq, append_assoc, is_eq}
use Rattle.sqlite_keyed.proofs.ListLemmas.{map-map}
use Rattle.ft_content.specs.Content.{gathered}
use Rattle.ft_content.proofs.{rows_are_read}
use Rattle.ft_documents.proofs.Common.{list_all, enumerate_from, int_cmp_total, tied_itself, find, where_key, below_all, is_sorted, and_parts, reverse-append, map-append, filter-append, exact_signed, Decides-int_eq, Cell, shown_value, CellKey, StoreValue, cell_key_cmp, shown_cell, last_docid_of, CellRow, TableRows, Documents, Content, IsContent, is_document, is_cell, document_rows, content_rows, names_of, names_clash, is_name, with_cell, last_docid, table_rows, gathered_row, shown_document, with_last}
use Rattle.ft_documents.specs.declared.documents.Document.{Document}
use Rattle.ft_documents.proofs.KeyedRows.{none_below, same_int}
use Rattle.ft_values.specs.declared.rows.CellRow as row

-- ---- the last item

abbrev last_item : {X : Type 0} → (X → ℤ) → List X → Option ℤ
last_item f [] = None
last_item f (x ∷ []) = Some (f x)
last_item f (x ∷ y ∷ ys) = last_item f (y ∷ ys)

first_stays : {X : Type 0} (f : X → ℤ) (v : ℤ) (xs ys : List X) → option_map f (slice_get xs 0) ≡ Some v → option_map f (slice_get (xs ++ ys) 0) ≡ Some v
first_stays f v [] ys h = absurd (let no = h in cc)
first_stays f v (x ∷ xs) ys h = h

last_some : {X : Type 0} (f : X → ℤ) (x : X) (xs : List X) → (v : ℤ) × (last_item f (x ∷ xs) ≡ Some v)
last_some f x [] = (f x, refl)
last_some f x (y ∷ ys) = last_some f y ys

last_reverse : {X : Type 0} (f : X → ℤ) (xs : List X) → option_map f (slice_get (reverse xs) 0) ≡ last_item f xs
last_reverse f [] = refl
last_reverse f (x ∷ []) = refl
last_reverse {X} f (x ∷ y ∷ ys) =
    let s = last_some f y ys in
    ap (λ (l : List X). option_map f (slice_get l 0)) (reverse-append (x ∷ []) (y ∷ ys)) ∙ first_stays f s.0 (reverse (y ∷ ys)) (x ∷ []) (last_reverse f (y ∷ ys) ∙ s.1) ∙ sym s.1

last-map : {X Y : Type 0} (f : Y → ℤ) (g : X → Y) (xs : List X) → last_item f (map g xs) ≡ last_item (λ x. f (g x)) xs
last-map f g [] = refl
last-map f g (x ∷ []) = refl
last-map f g (x ∷ y ∷ ys) = last-map f g (y ∷ ys)

last-append : {X : Type 0} (f : X → ℤ) (xs : List X) (y : X) (ys : List X) → last_item f (xs ++ y ∷ ys) ≡ last_item f (y ∷ ys)
last-append f [] y ys = refl
last-append f (x ∷ []) y ys = refl
last-append f (x ∷ z ∷ xs) y ys = last-append f (z ∷ xs) y ys

last_same : {X : Type 0} (k : ℤ) (x : X) (xs : List X) → last_item (λ (y : X). k) (x ∷ xs) ≡ Some k
last_same k x [] = refl
last_same k x (y ∷ ys) = last_same k y ys

-- ---- documents with a cell at least

abbrev HaveCells : Documents → Type 0
HaveCells [] = Unit {0}
HaveCells (d ∷ ds) = ((cell : Cell) × (cells : List Cell) × (d.1 ≡ cell ∷ cells)) × HaveCells ds

has_cell : (width : ℕ) (cells : List Cell) → nat_lt 0 width ≡ true → (length cells == width) ≡ true → (cell : Cell) × (more : List Cell) × (cells ≡ cell ∷ more)
has_cell width [] some is = absurd (let e : 0 ≡ width = eqb-true 0 width is in let no = ap (λ n. nat_lt 0 n) e ∙ some in cc)
has_cell width (cell ∷ cells) some is = (cell, cells, refl)

have_cells : (width : ℕ) (documents : Documents) → nat_lt 0 width ≡ true → list_all (is_document width) documents ≡ true → HaveCells documents
have_cells width [] some h = tt
have_cells width (d ∷ ds) some h =
    let parts = and_parts (is_document width d) (list_all (is_document width) ds) h in
    (has_cell width d.1 some (and_parts (length d.1 == width) (list_all is_cell d.1) parts.0).0, have_cells width ds some parts.1)

content_cells : (name : List ℕ) (content : Content) → IsContent name content → HaveCells content.documents
content_cells name content is =
    let width = length content.columns in
    let names = names_of content.columns in
    let named = and_parts (nat_lt 0 width && nat_le width 100 && list_all is_name names) (not (names_clash name names)) is.columns in
    let few = and_parts (nat_lt 0 width && nat_le width 100) (list_all is_name names) named.0 in
    have_cells width content.documents (and_parts (nat_lt 0 width) (nat_le width 100) few.0).0 is.documents

abbrev pub rows_in : Documents → List CellRow
rows_in documents = flat_map document_rows documents

abbrev row_of : ℤ → ℕ × Cell → CellRow
row_of docid c = record { docid = docid; column = pos c.0; value = c.1 }

-- rows of one document
last_of_rows : (d : ℤ × List Cell) (cell : Cell) (cells : List Cell) → d.1 ≡ cell ∷ cells → (row : CellRow) × (rows : List CellRow) × (document_rows d ≡ row ∷ rows) × (last_item (λ (r : CellRow). r.docid) (row ∷ rows) ≡ Some d.0)
last_of_rows d cell cells is = (
  row_of d.0 (0, cell),
  map (row_of d.0) (enumerate_from 1 cells),
  ap (λ (cs : List Cell). document_rows (d.0, cs)) is,
  last-map (λ (r : CellRow). r.docid) (row_of d.0) ((0, cell) ∷ enumerate_from 1 cells) ∙ last_same d.0 (0, cell) (enumerate_from 1 cells),
)

last_of_documents : (documents : Documents) → HaveCells documents → last_item (λ (r : CellRow). r.docid) (rows_in documents) ≡ last_docid documents
last_of_documents [] h = refl
last_of_documents (d ∷ []) h =
    let r = last_of_rows d h.0.0 h.0.1 h.0.2 in
    ap (last_item (λ (r : CellRow). r.docid)) (append-nil (document_rows d) ∙ r.2) ∙ r.3
last_of_documents (d ∷ e ∷ es) h =
    let r = last_of_rows e h.1.0.0 h.1.0.1 h.1.0.2 in
    let docid : CellRow → ℤ = λ r. r.docid in
    ap (λ (rows : List CellRow). last_item docid (document_rows d ++ (rows ++ rows_in es))) r.2 ∙ last-append docid (document_rows d) r.0 (r.1 ++ rows_in es)
    ∙ ap (λ (rows : List CellRow). last_item docid (rows ++ rows_in es)) (sym r.2) ∙ last_of_documents (e ∷ es) h.1

-- the last docid as a store reads it
pub last_read : (tab : ℤ) (store : StoreValue) (name : List ℕ) (content : Content) → IsContent name content → table_rows tab store ≡ content_rows content → last_docid content.documents ≡ last_docid_of tab store.cells
last_read tab store name content is rows =
    let asked : List (CellKey × Cell) = where_key cell_key_cmp (λ k. int_eq tab k.0) store.cells in
    let shown : CellKey × Cell → CellRow = λ (c : CellKey × Cell). record { docid = c.0.1; column = c.0.2; value = c.1 } in
    sym (last_reverse (λ (c : CellKey × Cell). c.0.1) asked ∙ sym (last-map (λ (r : CellRow). r.docid) shown asked)
    ∙ ap (λ (r : TableRows). last_item (λ (r : CellRow). r.docid) r.cells) rows ∙ last_of_documents content.documents (content_cells name content is))

-- ---- the rows of one docid

abbrev pub is_of : ℤ → CellRow → Bool
is_of docid row = int_eq docid row.docid

abbrev pub value_of_row : CellRow → Cell
value_of_row row = row.value

abbrev values_at : ℤ → List CellRow → List Cell
values_at docid rows = map value_of_row (filter (is_of docid) rows)

values-append : (docid : ℤ) (xs ys : List CellRow) → values_at docid (xs ++ ys) ≡ values_at docid xs ++ values_at docid ys
values-append docid xs ys = ap (map value_of_row) (filter-append (is_of docid) xs ys) ∙ map-append value_of_row (filter (is_of docid) xs) (filter (is_of docid) ys)

values_of_document : (docid k : ℤ) (b : Bool) (n : ℕ) (cells : List Cell) → int_eq docid k ≡ b → values_at docid (map (row_of k) (enumerate_from n cells)) ≡ cond b cells []
values_of_document docid k b n [] is = elim b as (λ b. ◌≡◌ {A = List Cell} [] (cond b [] [])) [ true ↦ refl | false ↦ refl ]
values_of_document docid k b n (cell ∷ cells) is =
    let rest : List CellRow = filter (is_of docid) (map (row_of k) (enumerate_from (n + 1) cells)) in
    ap (λ b. map value_of_row (cond b (row_of k (n, cell) ∷ rest) rest)) is
    ∙ elim b as (λ b. map value_of_row rest ≡ cond b cells [] → map value_of_row (cond b (row_of k (n, cell) ∷ rest) rest) ≡ cond b (cell ∷ cells) []) [ true ↦ λ more. ap (λ l. cell ∷ l) more | false ↦ λ more. more ] (values_of_document docid k b (n + 1) cells is)

values_found : (docid : ℤ) (documents : Documents) → is_sorted int_cmp documents ≡ true → values_at docid (rows_in documents) ≡ unwrap_or (find int_cmp docid documents) []
values_found docid [] h = refl
values_found docid (d ∷ ds) h =
    let parts = and_parts (below_all int_cmp d.0 ds) (is_sorted int_cmp ds) h in
    let rest = values_found docid ds parts.1 in
    values-append docid (document_rows d) (rows_in ds)
    ∙ elim (int_eq docid d.0) as (λ b. int_eq docid d.0 ≡ b → values_at docid (document_rows d) ++ values_at docid (rows_in ds) ≡ unwrap_or (cond b (Some d.1) (find int_cmp docid ds)) []) [
      | true ↦ λ is. (λ i. values_of_document docid d.0 true 0 d.1 is i ++ (rest ∙ ap (λ o. unwrap_or o []) (none_below int_cmp int_cmp_total exact_signed docid d.0 ds is parts.0)) i) ∙ append-nil d.1
      | false ↦ λ is. (λ i. values_of_document docid d.0 false 0 d.1 is i ++ rest i)
    ] refl

asked_values : (tab docid : ℤ) (cells : List (CellKey × Cell)) →
    map (λ (c : CellKey × Cell). c.1) (where_key cell_key_cmp (λ k. int_eq tab k.0 && int_eq docid k.1) cells) ≡ values_at docid (map (λ (c : CellKey × Cell). record { docid = c.0.1; column = c.0.2; value = c.1 }) (where_key cell_key_cmp (λ k. int_eq tab k.0) cells))
asked_values tab docid [] = refl
asked_values tab docid (e ∷ es) =
    let one : List (CellKey × Cell) = where_key cell_key_cmp (λ k. int_eq tab k.0 && int_eq docid k.1) es in
    let all : List (CellKey × Cell) = where_key cell_key_cmp (λ k. int_eq tab k.0) es in
    let shown : CellKey × Cell → CellRow = λ (c : CellKey × Cell). record { docid = c.0.1; column = c.0.2; value = c.1 } in
    let others : List CellRow = filter (is_of docid) (map shown all) in
    let rest = asked_values tab docid es in
    elim (int_eq tab e.0.0) as (λ b. map (λ (c : CellKey × Cell). c.1) (cond (b && int_eq docid e.0.1) (e ∷ one) one) ≡ values_at docid (map shown (cond b (e ∷ all) all))) [
      | true ↦ elim (int_eq docid e.0.1) as (λ b. map (λ (c : CellKey × Cell). c.1) (cond b (e ∷ one) one) ≡ map value_of_row (cond b (shown e ∷ others) others)) [
        | true ↦ ap (λ l. e.1 ∷ l) rest
        | false ↦ rest
      ]
      | false ↦ rest
    ]

-- the cells of one document as a store reads them
pub cells_read : (tab docid : ℤ) (store : StoreValue) (name : List ℕ) (content : Content) (read : List row.CellRow) → IsContent name content → table_rows tab store ≡ content_rows content →
    map (shown_cell tab) read ≡ where_key cell_key_cmp (λ k. int_eq tab k.0 && int_eq docid k.1) store.cells → map (λ (r : row.CellRow). shown_value r.value) read ≡ unwrap_or (find int_cmp docid content.documents) []
cells_read tab docid store name content read is rows same =
    sym (map-map (λ (c : CellKey × Cell). c.1) (shown_cell tab) read)
    ∙ ap (map (λ (c : CellKey × Cell). c.1)) same
    ∙ asked_values tab docid store.cells
    ∙ ap (λ (r : TableRows). values_at docid r.cells) rows
    ∙ values_found docid content.documents is.rising

abbrev if_any : List Cell → Option (List Cell)
if_any [] = None
if_any (cell ∷ cells) = Some (cell ∷ cells)

found_any : (docid : ℤ) (documents : Documents) → HaveCells documents → if_any (unwrap_or (find int_cmp docid documents) []) ≡ find int_cmp docid documents
found_any docid [] h = refl
found_any docid (d ∷ ds) h =
    let here : if_any d.1 ≡ Some d.1 = ap if_any h.0.2 ∙ ap Some (sym h.0.2) in
    elim (int_eq docid d.0) as (λ b. if_any (unwrap_or (cond b (Some d.1) (find int_cmp docid ds)) []) ≡ cond b (Some d.1) (find int_cmp docid ds)) [ true ↦ here | false ↦ found_any docid ds h.1 ]

pub none_read : (tab docid : ℤ) (store : StoreValue) (name : List ℕ) (content : Content) (read : List row.CellRow) → IsContent name content → table_rows tab store ≡ content_rows content →
    map (shown_cell tab) read ≡ where_key cell_key_cmp (λ k. int_eq tab k.0 && int_eq docid k.1) store.cells → (length read == 0) ≡ true → None ≡ find int_cmp docid content.documents
none_read tab docid store name content [] is rows same none = ap if_any (cells_read tab docid store name content [] is rows same) ∙ found_any docid content.documents (content_cells name content is)
none_read tab docid store name content (r ∷ rs) is rows same none = absurd (let e : suc (length rs) ≡ 0 = eqb-true (suc (length rs)) 0 none in omega (arith, e))

pub some_read : (tab docid : ℤ) (store : StoreValue) (name : List ℕ) (content : Content) (read : List row.CellRow) → IsContent name content → table_rows tab store ≡ content_rows content →
    map (shown_cell tab) read ≡ where_key cell_key_cmp (λ k. int_eq tab k.0 && int_eq docid k.1) store.cells → (length read == 0) ≡ false → Some (map (λ (r : row.CellRow). shown_value r.value) read) ≡ find int_cmp docid content.documents
some_read tab docid store name content [] is rows same some = absurd (let no = some in cc)
some_read tab docid store name content (r ∷ rs) is rows same some = ap if_any (cells_read tab docid store name content (r ∷ rs) is rows same) ∙ found_any docid content.documents (content_cells name content is)

-- ---- whether there is a document of a docid

first_of_values : {A B : Type 0} (f : A → B) (xs : List A) → is_some (slice_get xs 0) ≡ is_some (slice_get (map f xs) 0)
first_of_values f [] = refl
first_of_values f (x ∷ xs) = refl

some_found : (docid : ℤ) (documents : Documents) → HaveCells documents → is_some (slice_get (unwrap_or (find int_cmp docid documents) []) 0) ≡ is_some (find int_cmp docid documents)
some_found docid [] h = refl
some_found docid (d ∷ ds) h =
    elim (int_eq docid d.0) as (λ b. is_some (slice_get (unwrap_or (cond b (Some d.1) (find int_cmp docid ds)) []) 0) ≡ is_some (cond b (Some d.1) (find int_cmp docid ds))) [
      | true ↦ ap (λ (cells : List Cell). is_some (slice_get cells 0)) h.0.2
      | false ↦ some_found docid ds h.1
    ]

pub there_read : (tab docid : ℤ) (store : StoreValue) (name : List ℕ) (content : Content) → IsContent name content → table_rows tab store ≡ content_rows content →
    is_some (slice_get (where_key cell_key_cmp (λ k. int_eq tab k.0 && int_eq docid k.1) store.cells) 0) ≡ is_some (find int_cmp docid content.documents)
there_read tab docid store name content is rows =
    first_of_values (λ (c : CellKey × Cell). c.1) (where_key cell_key_cmp (λ k. int_eq tab k.0 && int_eq docid k.1) store.cells)
    ∙ ap (λ (cells : List Cell). is_some (slice_get cells 0)) (asked_values tab docid store.cells ∙ ap (λ (r : TableRows). values_at docid r.cells) rows ∙ values_found docid content.documents is.rising)
    ∙ some_found docid content.documents (content_cells name content is)

-- ---- the first cell of each document

abbrev is_first : CellRow → Bool
is_first row = int_eq (pos 0) row.column

abbrev firsts : List CellRow → List ℤ
firsts rows = map (λ (r : CellRow). r.docid) (filter is_first rows)

asked_firsts : (tab : ℤ) (cells : List (CellKey × Cell)) →
    map (λ (c : CellKey × Cell). c.0.1) (where_key cell_key_cmp (λ k. int_eq tab k.0 && int_eq (pos 0) k.2) cells) ≡ firsts (map (λ (c : CellKey × Cell). record { docid = c.0.1; column = c.0.2; value = c.1 }) (where_key cell_key_cmp (λ k. int_eq tab k.0) cells))
asked_firsts tab [] = refl
asked_firsts tab (e ∷ es) =
    let one : List (CellKey × Cell) = where_key cell_key_cmp (λ k. int_eq tab k.0 && int_eq (pos 0) k.2) es in
    let all : List (CellKey × Cell) = where_key cell_key_cmp (λ k. int_eq tab k.0) es in
    let shown : CellKey × Cell → CellRow = λ (c : CellKey × Cell). record { docid = c.0.1; column = c.0.2; value = c.1 } in
    let others : List CellRow = filter is_first (map shown all) in
    let rest = asked_firsts tab es in
    elim (int_eq tab e.0.0) as (λ b. map (λ (c : CellKey × Cell). c.0.1) (cond (b && int_eq (pos 0) e.0.2) (e ∷ one) one) ≡ firsts (map shown (cond b (e ∷ all) all))) [
      | true ↦ elim (int_eq (pos 0) e.0.2) as (λ b. map (λ (c : CellKey × Cell). c.0.1) (cond b (e ∷ one) one) ≡ map (λ (r : CellRow). r.docid) (cond b (shown e ∷ others) others)) [
        | true ↦ ap (λ l. e.0.1 ∷ l) rest
        | false ↦ rest
      ]
      | false ↦ rest
    ]

firsts-append : (xs ys : List CellRow) → firsts (xs ++ ys) ≡ firsts xs ++ firsts ys
firsts-append xs ys = ap (map (λ (r : CellRow). r.docid)) (filter-append is_first xs ys) ∙ map-append (λ (r : CellRow). r.docid) (filter is_first xs) (filter is_first ys)

behind_first : (n : ℕ) (b : Bool) → int_eq (pos 0) (pos (n + 1)) ≡ b → b ≡ false
behind_first n false is = refl
behind_first n true is = absurd (let e = same_int (pos 0) (pos (n + 1)) is in let same : 0 ≡ n + 1 = cc in omega (arith, same))

no_firsts : (docid : ℤ) (n : ℕ) (cells : List Cell) → firsts (map (λ (c : ℕ × Cell). record { docid = docid; column = pos c.0; value = c.1 }) (enumerate_from (n + 1) cells)) ≡ []
no_firsts docid n [] = refl
no_firsts docid n (cell ∷ cells) =
    let more : List CellRow = filter is_first (map (λ (c : ℕ × Cell). record { docid = docid; column = pos c.0; value = c.1 }) (enumerate_from (n + 1 + 1) cells)) in
    ap (λ b. map (λ (r : CellRow). r.docid) (cond b (record { docid = docid; column = pos (n + 1); value = cell } ∷ more) more)) (behind_first n (int_eq (pos 0) (pos (n + 1))) refl)
    ∙ no_firsts docid (n + 1) cells

firsts_of_documents : (documents : Documents) → HaveCells documents → firsts (flat_map document_rows documents) ≡ map (λ (d : ℤ × List Cell). d.0) documents
firsts_of_documents [] h = refl
firsts_of_documents (d ∷ ds) h =
    firsts-append (document_rows d) (flat_map document_rows ds)
    ∙ (λ i. (ap (λ (cells : List Cell). firsts (document_rows (d.0, cells))) h.0.2 ∙ ap (λ (l : List ℤ). d.0 ∷ l) (no_firsts d.0 0 h.0.1)) i ++ firsts_of_documents ds h.1 i)

-- the docids of a content as a store reads them
pub docids_read : (tab : ℤ) (store : StoreValue) (name : List ℕ) (content : Content) → IsContent name content → table_rows tab store ≡ content_rows content → map (λ (c : CellKey × Cell). c.0.1) (where_key cell_key_cmp (λ k. int_eq tab k.0 && int_eq (pos 0) k.2) store.cells) ≡ map (λ (d : ℤ × List Cell). d.0) content.documents
docids_read tab store name content is rows =
    asked_firsts tab store.cells ∙ ap (λ (r : TableRows). firsts r.cells) rows ∙ firsts_of_documents content.documents (content_cells name content is)

-- ---- all documents as a store reads them
pub all_read : (tab : ℤ) (store : StoreValue) (name : List ℕ) (content : Content) (read : List row.CellRow) → IsContent name content → table_rows tab store ≡ content_rows content →
    map (shown_cell tab) read ≡ where_key cell_key_cmp (λ k. int_eq tab k.0) store.cells → gathered (map gathered_row read) ≡ content.documents
all_read tab store name content read is rows same =
    ap gathered (sym (map-map (λ (c : CellKey × Cell). record { docid = c.0.1; column = c.0.2; value = c.1 }) (shown_cell tab) read) ∙ ap (map (λ (c : CellKey × Cell). record { docid = c.0.1; column = c.0.2; value = c.1 })) same ∙ ap (λ (r : TableRows). r.cells) rows)
    ∙ ap (λ (c : Content). c.documents) (rows_are_read name content is)

-- ---- documents as their cells are gathered from the front

at_last : (row : CellRow) (documents : Documents) (d : ℤ × List Cell) → with_last row (documents ++ d ∷ []) ≡ documents ++ with_last row (d ∷ [])
at_last row [] d = refl
at_last row (e ∷ []) d = refl
at_last row (e ∷ f ∷ es) d = ap (λ l. e ∷ l) (at_last row (f ∷ es) d)

-- by whether the row is of the last document
last_is : (row : CellRow) (documents : Documents) (d : ℤ × List Cell) (b : Bool) → int_eq d.0 row.docid ≡ b → with_last row (documents ++ d ∷ []) ≡ documents ++ cond b ((d.0, d.1 ++ row.value ∷ []) ∷ []) (d ∷ (row.docid, row.value ∷ []) ∷ [])
last_is row documents d b is = at_last row documents d ∙ ap (λ b. documents ++ cond b ((d.0, d.1 ++ row.value ∷ []) ∷ []) (d ∷ (row.docid, row.value ∷ []) ∷ [])) is

-- a cell of the last document, and one of another
pub joined : (row : CellRow) (documents old : List Document) (last : Document) → old ≡ documents ++ last ∷ [] → last.docid ≡ row.docid →
    map shown_document documents ++ (row.docid, map shown_value last.cells.items ++ row.value ∷ []) ∷ [] ≡ with_last row (map shown_document old)
joined row documents old last is same = simp (is, map-append, last_is row (map shown_document documents) (shown_document last) true (ap (λ k. int_eq k row.docid) same ∙ ap is_eq (tied_itself int_cmp_total row.docid))) (ap (λ k. map shown_document documents ++ (k, map shown_value last.cells.items ++ row.value ∷ []) ∷ []) (sym same))

pub behind : (row : CellRow) (documents old : List Document) (last : Document) → old ≡ documents ++ last ∷ [] → (last.docid ≡ row.docid → ⊥) →
    map shown_document old ++ (row.docid, row.value ∷ []) ∷ [] ≡ with_last row (map shown_document old)
behind row documents old last is other = simp (is, map-append, last_is row (map shown_document documents) (shown_document last) false (apart (int_eq last.docid row.docid) refl), append_assoc)
  where
    apart : (b : Bool) → int_eq last.docid row.docid ≡ b → b ≡ false
    apart true e = absurd (other ((Decides-int_eq last.docid row.docid).0 e))
    apart false e = refl

pub first_of_all : (row : CellRow) (documents old : List Document) → old ≡ documents ++ [] → length old ≡ 0 → map shown_document documents ++ (row.docid, row.value ∷ []) ∷ [] ≡ with_last row (map shown_document old)
first_of_all row [] old is none = sym (ap (λ l. with_last row (map shown_document l)) is)
first_of_all row (d ∷ ds) old is none = absurd (let no : suc (length (ds ++ [])) ≡ 0 = ap length (sym is) ∙ none in omega (arith, no))

-- a cell at the front and one at the end, of equal docids or not
ends_one : (x row : CellRow) (b : Bool) → int_eq x.docid row.docid ≡ b → with_cell x ((row.docid, row.value ∷ []) ∷ []) ≡ with_last row ((x.docid, x.value ∷ []) ∷ [])
ends_one x row true is = simp is (ap (λ k. (k, x.value ∷ row.value ∷ []) ∷ []) (sym ((Decides-int_eq x.docid row.docid).0 is)))
ends_one x row false is = simp is

-- the same of one document, by the two tests
ends_two : (x row : CellRow) (d : ℤ × List Cell) (b c : Bool) → int_eq d.0 row.docid ≡ b → int_eq x.docid d.0 ≡ c → with_cell x (with_last row (d ∷ [])) ≡ with_last row (with_cell x (d ∷ []))
ends_two x row d true true e f = simp (e, f)
ends_two x row d true false e f = simp (e, f)
ends_two x row d false true e f = simp (e, f)
ends_two x row d false false e f = simp (e, f)

ends : (x row : CellRow) (documents : Documents) → with_cell x (with_last row documents) ≡ with_last row (with_cell x documents)
ends x row [] = ends_one x row (int_eq x.docid row.docid) refl
ends x row (d ∷ []) = ends_two x row d (int_eq d.0 row.docid) (int_eq x.docid d.0) refl refl
ends x row (d ∷ e ∷ es) =
    elim (int_eq x.docid d.0) as (λ b. cond b ((d.0, x.value ∷ d.1) ∷ with_last row (e ∷ es)) ((x.docid, x.value ∷ []) ∷ d ∷ with_last row (e ∷ es)) ≡ with_last row (cond b ((d.0, x.value ∷ d.1) ∷ e ∷ es) ((x.docid, x.value ∷ []) ∷ d ∷ e ∷ es))) [ true ↦ refl | false ↦ refl ]

-- one more row
pub gathered_more : (rows : List CellRow) (row : CellRow) → gathered (rows ++ row ∷ []) ≡ with_last row (gathered rows)
unfolding gathered
gathered_more [] row = refl
gathered_more (x ∷ rows) row = ap (with_cell x) (gathered_more rows row) ∙ ends x row (gathered rows)

pub gathered_none : [] ≡ gathered []
unfolding gathered
gathered_none = refl
