-- Rows are a content where their columns, the numbers of those that aren't indexed, and their cells
-- are those of one.
use Rattle.std.proofs.Common.{◌≡◌, ℕ, ◌+◌, ◌<◌, ◌≤◌, Bool, true, not, ◌&&◌, ◌||◌, List, [], ◌∷◌, map, length, ℤ, pos, refl, sym, ap, subst, ◌∙◌, lt-ltb, le-leb, IsTrue, int_eq, is_eq, ◌≢◌, ◌==◌, false, cond, ◌++◌, Option, Some, None, arith, eqb-true, eq-eqb, flat_map, int_cmp, is_lt}
use Rattle.ft_content.proofs.{rows_are_read}
use Rattle.ft_documents.proofs.Common.{list_any, list_all, enumerate_from, int_cmp_total, tied_itself, eq_by_cmp_equiv, pointwise, int_cmp-IsAntisymmetric, and_parts, and_from, false_from_ne_true, Decides-int_eq, slice_eq-Decides, below_all, is_sorted, Cell, Column, Content, TableRows, content_in, are_columns, skipped_from, is_name, names_of, names_clash, CellRow, Documents, document_rows, is_cell, is_document, AreContent, AreDocumentCells, columns_said, stands_after, follows}
use Rattle.ft_documents.specs.Standing.{numbered_from}
use Rattle.ft_documents.proofs.KeyedRows.{tie, below_lower, same_int}

abbrev under_numbers : ℕ → List Column → List (ℤ × List ℕ)
under_numbers k columns = map (λ (c : ℕ × Column). (pos c.0, c.1.name)) (enumerate_from k columns)

abbrev pub column_in : List ℤ → ℤ × List ℕ → Column
column_in skipped c = record { name = c.1; indexed = not (list_any (int_eq c.0) skipped) }

numbered_is : (skipped : List ℤ) (k : ℕ) (columns : List (ℤ × List ℕ)) → numbered_from k columns ≡ true → columns ≡ under_numbers k (map (column_in skipped) columns)
numbered_is skipped k [] h = refl
numbered_is skipped k (c ∷ cs) h =
    let parts = and_parts (int_eq c.0 (pos k)) (numbered_from (k + 1) cs) h in
    let here : c.0 ≡ pos k = int_cmp-IsAntisymmetric c.0 (pos k) (tie _ parts.0) in
    let rest = numbered_is skipped (k + 1) cs parts.1 in
    λ i. (here i, c.1) ∷ rest i

is_numbered : (k : ℕ) (columns : List Column) → numbered_from k (under_numbers k columns) ≡ true
is_numbered k [] = refl
is_numbered k (c ∷ cs) = and_from (int_eq (pos k) (pos k)) (numbered_from (k + 1) (under_numbers (k + 1) cs)) (ap is_eq (tied_itself int_cmp_total (pos k))) (is_numbered (k + 1) cs)

-- what is tested of rows
pub record Parts (name : List ℕ) (rows : TableRows) (made : List Column) : Type 0 where
  pub numbered : numbered_from 0 rows.columns ≡ true
  pub columns : are_columns name made ≡ true
  pub skipped : rows.skipped ≡ skipped_from 0 made
  pub documents : AreDocumentCells (length made) rows.cells

pub content_of : (name : List ℕ) (rows : TableRows) (columns : List Column) → columns ≡ columns_said rows → Parts name rows columns → AreContent name rows
content_of name rows columns are p =
    let numbers : rows.columns ≡ under_numbers 0 columns = numbered_is rows.skipped 0 rows.columns p.numbered ∙ ap (under_numbers 0) (sym are) in
    record {
      content = record { columns = columns; documents = p.documents.documents };
      is_content = record { columns = p.columns; documents = p.documents.each; rising = p.documents.rising };
      is = λ i. record { columns = numbers i; skipped = p.skipped i; cells = p.documents.are i };
    }

pub parts_of : (name : List ℕ) (rows : TableRows) (columns : List Column) → columns ≡ columns_said rows → AreContent name rows → Parts name rows columns
parts_of name rows columns are h =
    let c = h.content in
    let same : columns ≡ c.columns = are ∙ ap (λ (r : TableRows). (content_in r).columns) h.is ∙ ap (λ (x : Content). x.columns) (rows_are_read name c h.is_content) in
    record {
      numbered = ap (λ (r : TableRows). numbered_from 0 r.columns) h.is ∙ is_numbered 0 c.columns;
      columns = ap (are_columns name) same ∙ h.is_content.columns;
      skipped = ap (λ (r : TableRows). r.skipped) h.is ∙ ap (skipped_from 0) (sym same);
      documents = subst (λ cs. AreDocumentCells (length cs) rows.cells) (sym same) (record {
        documents = c.documents;
        each = h.is_content.documents;
        rising = h.is_content.rising;
        are = ap (λ (r : TableRows). r.cells) h.is;
      });
    }

-- ---- tests of numbers and names

pub compared : (xs ys : List ℤ) (b : Bool) → b ≡ pointwise int_eq xs ys → (IsTrue b → xs ≡ ys) × (xs ≡ ys → IsTrue b)
compared xs ys b is = slice_eq-Decides Decides-int_eq xs ys b is

pub turned_any : (n : ℤ) (xs : List ℤ) → list_any (λ x. int_eq x n) xs ≡ list_any (int_eq n) xs
turned_any n [] = refl
turned_any n (x ∷ xs) = λ i. (eq_by_cmp_equiv int_cmp_total).symm x n i || turned_any n xs i

pub tested : (name : List ℕ) (columns : List Column) (names : List (List ℕ)) (fit clash : Bool) → names ≡ names_of columns → 0 < length columns → length columns ≤ 100 → fit ≡ list_all is_name names → clash ≡ names_clash name names → (fit && not clash) ≡ are_columns name columns
tested name columns names fit clash are some few fits clashes = simp (fits, clashes, are, lt-ltb 0 (length columns) some, le-leb (length columns) 100 few)

-- ---- cells that follow one another are those of documents

abbrev pub next_place : ℕ → ℕ → ℕ
next_place width place = cond (place + 1 == width) 0 (place + 1)

-- each cell follows the one before it, and the last one ends a document
abbrev pub follow : ℕ → ℕ → Option ℤ → List CellRow → Bool
follow width place last [] = place == 0
follow width place last (cell ∷ cells) = follows place last cell && follow width (next_place width place) (Some cell.docid) cells

abbrev cells_from : ℕ → ℤ → List Cell → List CellRow
cells_from k docid cells = map (λ (c : ℕ × Cell). record { docid = docid; column = pos c.0; value = c.1 }) (enumerate_from k cells)

abbrev above : Option ℤ → Documents → Bool
above None documents = true
above (Some last) documents = below_all int_cmp last documents

-- cells from the beginning of a document on
record Whole (width : ℕ) (last : Option ℤ) (cells : List CellRow) : Type 0 where
  documents : Documents
  each : list_all (is_document width) documents ≡ true
  rising : is_sorted int_cmp documents ≡ true
  behind : above last documents ≡ true
  is : cells ≡ flat_map document_rows documents

-- cells from a place within a document on
record Begun (width place : ℕ) (docid : ℤ) (cells : List CellRow) : Type 0 where
  own : List Cell
  long : place + length own ≡ width
  each : list_all is_cell own ≡ true
  rest : List CellRow
  whole : Whole width (Some docid) rest
  is : cells ≡ cells_from place docid own ++ rest

abbrev Rest : ℕ → ℕ → Option ℤ → List CellRow → Bool → Type 0
Rest width place last cells true = Whole width last cells
Rest width place None cells false = Unit {0}
Rest width place (Some docid) cells false = Begun width place docid cells

later_place : (k : ℕ) → (k + 1 == 0) ≡ false
later_place k = false_from_ne_true (k + 1 == 0) (λ h. let e : k + 1 ≡ 0 = eqb-true (k + 1) 0 h in omega arith)

-- ---- cells that follow one another

a_document : (width : ℕ) (docid : ℤ) (own : List Cell) → length own ≡ width → list_all is_cell own ≡ true → is_document width (docid, own) ≡ true
a_document width docid own long each = and_from (length own == width) (list_all is_cell own) (eq-eqb _ _ long) each

-- from the first place a document begins
starts : (width : ℕ) (last : Option ℤ) (cell : CellRow) (cells : List CellRow) → stands_after 0 last cell.docid ≡ true → Begun width 0 cell.docid (cell ∷ cells) → Whole width last (cell ∷ cells)
starts width last cell cells after b = record {
  documents = (cell.docid, b.own) ∷ b.whole.documents;
  each = and_from (is_document width (cell.docid, b.own)) (list_all (is_document width) b.whole.documents) (a_document width cell.docid b.own (omega (arith, b.long)) b.each) b.whole.each;
  rising = and_from (below_all int_cmp cell.docid b.whole.documents) (is_sorted int_cmp b.whole.documents) b.whole.behind b.whole.rising;
  behind = all_behind last after;
  is = b.is ∙ ap (λ rest. cells_from 0 cell.docid b.own ++ rest) b.whole.is;
}
  where
    all_behind : (last : Option ℤ) → stands_after 0 last cell.docid ≡ true → above last ((cell.docid, b.own) ∷ b.whole.documents) ≡ true
    all_behind None after = refl
    all_behind (Some last) after = and_from (is_lt (int_cmp last cell.docid)) (below_all int_cmp last b.whole.documents) after (below_lower int_cmp int_cmp_total last cell.docid b.whole.documents after b.whole.behind)

-- and at each other place it goes on
goes_on : (width place : ℕ) (first : Bool) → (place == 0) ≡ first → (last : Option ℤ) (cell : CellRow) (cells : List CellRow) → stands_after place last cell.docid ≡ true → Begun width place cell.docid (cell ∷ cells) → Rest width place last (cell ∷ cells) first
goes_on width place true zero last cell cells after b =
    let e : place ≡ 0 = eqb-true place 0 zero in
    starts width last cell cells (subst (λ k. stands_after k last cell.docid ≡ true) e after) (subst (λ k. Begun width k cell.docid (cell ∷ cells)) e b)
goes_on width place false more None cell cells after b = tt
goes_on width place false more (Some last) cell cells after b =
    let same : int_eq last cell.docid ≡ true = ap (λ t. cond t (is_lt (int_cmp last cell.docid)) (int_eq last cell.docid)) (sym more) ∙ after in
    subst (λ d. Begun width place d (cell ∷ cells)) (sym (same_int last cell.docid same)) b

-- a cell in front
joins : (width place : ℕ) (last : Bool) → (place + 1 == width) ≡ last → (cell : CellRow) (cells : List CellRow) → cell.column ≡ pos place → is_cell cell.value ≡ true →
    Rest width (cond last 0 (place + 1)) (Some cell.docid) cells (cond last 0 (place + 1) == 0) → Begun width place cell.docid (cell ∷ cells)
joins width place true end cell cells column fine rest = record {
  own = cell.value ∷ [];
  long = eqb-true (place + 1) width end;
  each = and_from (is_cell cell.value) true fine refl;
  rest = cells;
  whole = rest;
  is = ap (λ c. record { docid = cell.docid; column = c; value = cell.value } ∷ cells) column;
}
joins width place false end cell cells column fine rest =
    let b : Begun width (place + 1) cell.docid cells = subst (λ t. Rest width (place + 1) (Some cell.docid) cells t) (later_place place) rest in
    record {
      own = cell.value ∷ b.own;
      long = omega (arith, b.long);
      each = and_from (is_cell cell.value) (list_all is_cell b.own) fine b.each;
      rest = b.rest;
      whole = b.whole;
      is = (λ i. record { docid = cell.docid; column = column i; value = cell.value } ∷ b.is i);
    }

all_follow : (width place : ℕ) (last : Option ℤ) (cells : List CellRow) → follow width place last cells ≡ true → Rest width place last cells (place == 0)
all_follow width place last [] h = subst (λ t. Rest width place last [] t) (sym h) (record { documents = []; each = refl; rising = refl; behind = none last; is = refl })
  where
    none : (last : Option ℤ) → above last [] ≡ true
    none None = refl
    none (Some last) = refl
all_follow width place last (cell ∷ cells) h =
    let parts = and_parts (follows place last cell) (follow width (next_place width place) (Some cell.docid) cells) h in
    let two = and_parts (int_eq cell.column (pos place) && is_cell cell.value) (stands_after place last cell.docid) parts.0 in
    let one = and_parts (int_eq cell.column (pos place)) (is_cell cell.value) two.0 in
    goes_on width place (place == 0) refl last cell cells two.1
    (joins width place (place + 1 == width) refl cell cells (same_int cell.column (pos place) one.0) one.1 (all_follow width (next_place width place) (Some cell.docid) cells parts.1))

pub are_documents : (width : ℕ) (cells : List CellRow) → follow width 0 None cells ≡ true → AreDocumentCells width cells
are_documents width cells h = let w = all_follow width 0 None cells h in record { documents = w.documents; each = w.each; rising = w.rising; are = w.is }

-- ---- cells of documents follow one another

pub apart : (j k : ℕ) → j ≢ k → (j == k) ≡ false
apart j k h = false_from_ne_true (j == k) (λ same. h (eqb-true j k same))

here : (place : ℕ) (last : Option ℤ) (docid : ℤ) (cell : Cell) → stands_after place last docid ≡ true → is_cell cell ≡ true → follows place last (record { docid = docid; column = pos place; value = cell }) ≡ true
here place last docid cell after fine = and_from (int_eq (pos place) (pos place) && is_cell cell) (stands_after place last docid) (and_from (int_eq (pos place) (pos place)) (is_cell cell) (ap is_eq (tied_itself int_cmp_total (pos place))) fine) after

same_document : (place : ℕ) (docid : ℤ) → stands_after (place + 1) (Some docid) docid ≡ true
same_document place docid = ap (λ t. cond t (is_lt (int_cmp docid docid)) (int_eq docid docid)) (later_place place) ∙ ap is_eq (tied_itself int_cmp_total docid)

begun_follow : (width place : ℕ) (last : Option ℤ) (docid : ℤ) (cell : Cell) (own : List Cell) (rest : List CellRow) → stands_after place last docid ≡ true → place + length (cell ∷ own) ≡ width → list_all is_cell (cell ∷ own) ≡ true →
    follow width 0 (Some docid) rest ≡ true → follow width place last (cells_from place docid (cell ∷ own) ++ rest) ≡ true
begun_follow width place last docid cell [] rest after long each h =
    let row : CellRow = record { docid = docid; column = pos place; value = cell } in
    let parts = and_parts (is_cell cell) true each in
    and_from (follows place last row) (follow width (next_place width place) (Some docid) rest) (here place last docid cell after parts.0)
    (ap (λ t. follow width (cond t 0 (place + 1)) (Some docid) rest) (eq-eqb (place + 1) width (omega (arith, long))) ∙ h)
begun_follow width place last docid cell (next ∷ own) rest after long each h =
    let row : CellRow = record { docid = docid; column = pos place; value = cell } in
    let parts = and_parts (is_cell cell) (list_all is_cell (next ∷ own)) each in
    let others = cells_from (place + 1) docid (next ∷ own) ++ rest in
    let not_yet : (place + 1 == width) ≡ false = apart (place + 1) width (omega (arith, long)) in
    and_from (follows place last row) (follow width (next_place width place) (Some docid) others) (here place last docid cell after parts.0)
    (ap (λ t. follow width (cond t 0 (place + 1)) (Some docid) others) not_yet
    ∙ begun_follow width (place + 1) (Some docid) docid next own rest (same_document place docid) (omega (arith, long)) parts.1 h)

after_last : (last : Option ℤ) (d : ℤ × List Cell) (ds : Documents) → above last (d ∷ ds) ≡ true → stands_after 0 last d.0 ≡ true
after_last None d ds h = refl
after_last (Some last) d ds h = (and_parts (is_lt (int_cmp last d.0)) (below_all int_cmp last ds) h).0

first_follow : (width : ℕ) (last : Option ℤ) (docid : ℤ) (own : List Cell) (rest : List CellRow) → 0 < width → stands_after 0 last docid ≡ true → length own ≡ width → list_all is_cell own ≡ true → follow width 0 (Some docid) rest ≡ true →
    follow width 0 last (cells_from 0 docid own ++ rest) ≡ true
first_follow width last docid [] rest some after long each h = absurd (let e : 0 ≡ width = long in omega (arith, some, e))
first_follow width last docid (cell ∷ own) rest some after long each h = begun_follow width 0 last docid cell own rest after (omega (arith, long)) each h

documents_follow : (width : ℕ) (last : Option ℤ) (documents : Documents) → 0 < width → list_all (is_document width) documents ≡ true → is_sorted int_cmp documents ≡ true → above last documents ≡ true → follow width 0 last (flat_map document_rows documents) ≡ true
documents_follow width last [] some each rising behind = refl
documents_follow width last (d ∷ ds) some each rising behind =
    let parts = and_parts (is_document width d) (list_all (is_document width) ds) each in
    let order = and_parts (below_all int_cmp d.0 ds) (is_sorted int_cmp ds) rising in
    let own = and_parts (length d.1 == width) (list_all is_cell d.1) parts.0 in
    first_follow width last d.0 d.1 (flat_map document_rows ds) some (after_last last d ds behind) (eqb-true (length d.1) width own.0) own.1 (documents_follow width (Some d.0) ds some parts.1 order.1 order.0)

pub all_documents_follow : (width : ℕ) (cells : List CellRow) → 0 < width → AreDocumentCells width cells → follow width 0 None cells ≡ true
all_documents_follow width cells some are = ap (follow width 0 None) are.are ∙ documents_follow width None are.documents some are.each are.rising refl

pub a_step : (width place next : ℕ) (last : Option ℤ) (cell : CellRow) (cells : List CellRow) (all : Bool) → follows place last cell ≡ true → next ≡ next_place width place → follow width place last (cell ∷ cells) ≡ all → follow width next (Some cell.docid) cells ≡ all
a_step width place next last cell cells all here is h = ap (λ k. follow width k (Some cell.docid) cells) is ∙ sym (ap (λ t. t && follow width (next_place width place) (Some cell.docid) cells) here) ∙ h

pub no_step : (width place : ℕ) (last : Option ℤ) (cell : CellRow) (cells : List CellRow) (all : Bool) → follows place last cell ≡ false → follow width place last (cell ∷ cells) ≡ all → all ≡ false
no_step width place last cell cells all here h = sym h ∙ ap (λ t. t && follow width (next_place width place) (Some cell.docid) cells) here

pub told : (width : ℕ) (cells : List CellRow) (b : Bool) → 0 < width → follow width 0 None cells ≡ b → (IsTrue b → AreDocumentCells width cells) × (AreDocumentCells width cells → IsTrue b)
told width cells b some is = ((λ h. are_documents width cells (is ∙ h)), (λ are. sym is ∙ all_documents_follow width cells some are))
