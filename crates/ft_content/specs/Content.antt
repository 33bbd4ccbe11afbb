-- Meaning. What a table contains: columns, and documents by rising docid. A section named in quotes in a comment of these files is one of
-- the SQLite document "SQLite FTS3 and FTS4 Extensions"; what that document leaves open is marked as an own choice.
use Rattle.std.specs.Prelude.{◌≡◌, ℕ, ◌+◌, Bool, false, if◌then◌else◌, not, ◌&&◌, ◌||◌, List, [], ◌∷◌, map, length, nat_lt, nat_le, ◌==◌, codes, ℤ, pos, IsTrue}
use Rattle.std.specs.List.{list_any, list_all, flat_map, enumerate_from}
use Rattle.std.specs.Ordering.{int_cmp, int_eq}
use Rattle.std.specs.Fmt.{signed_decimal}
use Rattle.std.specs.FinMap.Entries.{is_sorted}
pub use Rattle.ft_values.specs.Cells.{Cell, Null, Int, Text}
pub use Rattle.ft_values.specs.Names.{same_name, repeats_name}

-- The text of a cell: nothing, the decimal text, or the text. A cell is NULL, an integer or a text (own choice).
abbrev pub cell_text : Cell → List ℕ
cell_text Null = []
cell_text (Int number) = signed_decimal number
cell_text (Text bytes) = bytes

-- a column, and whether its cells are indexed ("The notindexed= option")
pub record Column : Type 0 where
  pub name : List ℕ
  pub indexed : Bool

-- a document is its docid and one cell for each column ("Populating FTS Tables"). They stand by rising docid
abbrev pub Documents : Type 0
Documents = List (ℤ × List Cell)

pub record Content : Type 0 where
  pub columns : List Column
  pub documents : Documents

-- docid goes by two names ("Populating FTS Tables"; the document's other names aren't taken, an own choice)
abbrev pub is_docid : List ℕ → Bool
is_docid name = same_name name (codes "docid") || same_name name (codes "rowid")

abbrev pub names_of : List Column → List (List ℕ)
names_of columns = map (λ c. c.name) columns

-- a name that a table or a column may be given (own choice)
abbrev pub is_name : List ℕ → Bool
is_name name = nat_lt 0 (length name) && nat_le (length name) 100 && not (list_any (λ b. b == 0) name)

-- whether columns of a table clash: two of one name, or one named as docid or as the table (own choice)
abbrev pub names_clash : List ℕ → List (List ℕ) → Bool
names_clash table names = repeats_name names || list_any is_docid names || list_any (same_name table) names

-- A text has at most 1,000,000 bytes, and no U+0000 (own choice).
abbrev pub is_too_long : Cell → Bool
is_too_long (Text bytes) = nat_lt 1000000 (length bytes)
is_too_long cell = false

abbrev pub has_nul : Cell → Bool
has_nul (Text bytes) = list_any (λ b. b == 0) bytes
has_nul cell = false

-- Docids and numbers are of 64 bits by the types of the rows that hold them.
abbrev pub is_cell : Cell → Bool
is_cell cell = not (is_too_long cell) && not (has_nul cell)

-- a document of a table with this many columns
abbrev pub is_document : ℕ → ℤ × List Cell → Bool
is_document width document = length document.1 == width && list_all is_cell document.1

-- columns that a Create of this table could make: from 1 to 100 (own choice)
abbrev pub are_columns : List ℕ → List Column → Bool
are_columns table columns =
    nat_lt 0 (length columns) && nat_le (length columns) 100 && list_all is_name (names_of columns)
    && not (names_clash table (names_of columns))

-- what a table of this name may contain
pub record IsContent (table : List ℕ) (content : Content) : Type 0 where
  pub columns : IsTrue (are_columns table content.columns)
  pub documents : IsTrue (list_all (is_document (length content.columns)) content.documents)
  pub rising : IsTrue (is_sorted int_cmp content.documents)

-- A table's rows in the store, in key order: the columns' names under their numbers, the numbers of those that are not indexed, and the
-- cells.
pub record CellRow : Type 0 where
  pub docid : ℤ
  pub column : ℤ
  pub value : Cell

pub record TableRows : Type 0 where
  pub columns : List (ℤ × List ℕ)
  pub skipped : List ℤ
  pub cells : List CellRow

-- the rows of one document
abbrev pub document_rows : ℤ × List Cell → List CellRow
document_rows document = map (λ (c : ℕ × Cell). record { docid = document.0; column = pos c.0; value = c.1 }) (enumerate_from 0 document.1)

-- the numbers of the columns that are not indexed
abbrev pub skipped_from : ℕ → List Column → List ℤ
skipped_from k [] = []
skipped_from k (column ∷ columns) = if column.indexed then (skipped_from (k + 1) columns) else (pos k ∷ skipped_from (k + 1) columns)

-- the rows that hold a content, and hold no other
abbrev pub content_rows : Content → TableRows
content_rows content = record {
  columns = map (λ (c : ℕ × Column). (pos c.0, c.1.name)) (enumerate_from 0 content.columns);
  skipped = skipped_from 0 content.columns;
  cells = flat_map document_rows content.documents;
}

-- The documents that cell rows in key order are of: a row joins the document that the next row is of, if that has its docid.
abbrev pub with_cell : CellRow → Documents → Documents
with_cell row [] = (row.docid, row.value ∷ []) ∷ []
with_cell row (d ∷ ds) = if int_eq row.docid d.0 then ((d.0, row.value ∷ d.1) ∷ ds) else ((row.docid, row.value ∷ []) ∷ d ∷ ds)

unfoldable pub gathered : List CellRow → Documents
gathered [] = []
gathered (row ∷ rows) = with_cell row (gathered rows)

-- the content that rows are of, if they are of any
abbrev pub content_in : TableRows → Content
content_in rows = record {
  columns = map (λ (c : ℤ × List ℕ). record { name = c.1; indexed = not (list_any (int_eq c.0) rows.skipped) }) rows.columns;
  documents = gathered rows.cells;
}

-- A content is read back from its rows.
abbrev pub RowsAreRead : Type 0
RowsAreRead = (table : List ℕ) (content : Content) → IsContent table content → content_in (content_rows content) ≡ content

-- Two contents with the same rows are one.
abbrev pub ContentsAreOne : Type 0
ContentsAreOne = (table : List ℕ) (one other : Content) → IsContent table one → IsContent table other → content_rows one ≡ content_rows other → one ≡ other

pub record RowsHoldContent : Type 0 where
  pub read : RowsAreRead
  pub one : ContentsAreOne
