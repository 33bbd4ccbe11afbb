-- Steps. How the rows of a table stand that the store lists. All of it is our own choice.
use Rattle.std.specs.Prelude.{◌≡◌, ◌≢◌, ℕ, ◌+◌, ◌==◌, Bool, true, if◌then◌else◌, not, ◌&&◌, List, [], ◌∷◌, map}
use Rattle.std.specs.Prelude.{Option, Some, None, String, Vec, string_bytes, ℤ, pos, IsTrue}
use Rattle.std.specs.declared.alloc.Global.{Global}
use Rattle.std.specs.List.{list_all, list_any, flat_map}
use Rattle.std.specs.Ordering.{int_cmp, int_eq, is_lt}
use Rattle.std.specs.FinMap.Entries.{is_sorted}
use Rattle.ft_values.specs.declared.rows.CellRow as stored
use Rattle.ft_values.specs.declared.rows.SizeRow as sizes
use Rattle.ft_values.specs.declared.rows.TabRow.{TabRow}
use Rattle.ft_values.specs.Cells.{shown_value}
use Rattle.ft_content.specs.Content.{CellRow, Column, TableRows, Documents, Content, IsContent, content_rows, document_rows, is_cell, is_document}
use Rattle.ft_content.specs.Index.{index_rows}
use Rattle.ft_documents.specs.RewriteRows.{sized}
use Rattle.ft_documents.specs.Terms.{lists_of_terms}
use Rattle.ft_rows.specs.declared.terms.TermLists.{TermLists}

-- a cell as a table's rows have it
abbrev pub shown_row : stored.CellRow → CellRow
shown_row cell = record { docid = cell.docid; column = cell.column; value = shown_value cell.value }

-- a column under its number
abbrev pub numbered_column : ℤ × String Global → ℤ × List ℕ
numbered_column c = (c.0, string_bytes c.1)

-- the rows of a table that is listed, with these cells
abbrev pub listed_rows : TabRow → List stored.CellRow → TableRows
listed_rows table cells = record { columns = map numbered_column table.columns.items; skipped = table.skipped.items; cells = map shown_row cells }

-- rows are a content that a table of this name may have
pub record AreContent (name : List ℕ) (rows : TableRows) : Type 0 where
  pub content : Content
  pub is_content : IsContent name content
  pub is : rows ≡ content_rows content

-- cells are those of documents with so many columns, by rising docid
pub record AreDocumentCells (width : ℕ) (cells : List CellRow) : Type 0 where
  pub documents : Documents
  pub each : IsTrue (list_all (is_document width) documents)
  pub rising : IsTrue (is_sorted int_cmp documents)
  pub are : cells ≡ flat_map document_rows documents

-- A document's first cell has a docid above that of the cell before it, and each other has the same.
abbrev pub stands_after : ℕ → Option ℤ → ℤ → Bool
stands_after place None docid = place == 0
stands_after place (Some last) docid = if place == 0 then is_lt (int_cmp last docid) else int_eq last docid

-- A cell is the one at this place of a document, after a cell of the docid.
abbrev pub follows : ℕ → Option ℤ → CellRow → Bool
follows place last cell = int_eq cell.column (pos place) && is_cell cell.value && stands_after place last cell.docid

-- columns are numbered from here on
abbrev pub numbered_from : ℕ → List (ℤ × List ℕ) → Bool
numbered_from k [] = true
numbered_from k (column ∷ columns) = int_eq column.0 (pos k) && numbered_from (k + 1) columns

-- the columns that rows say
abbrev pub columns_said : TableRows → List Column
columns_said rows = map (λ (c : ℤ × List ℕ). record { name = c.1; indexed = not (list_any (int_eq c.0) rows.skipped) }) rows.columns

-- a size under docid and column, as index rows have them
abbrev pub size_under_key : sizes.SizeRow → (ℤ × ℤ) × ℤ
size_under_key s = ((s.docid, s.column), s.n)

-- the rows of a content
pub record HaveContent (columns : List Column) (rows : List CellRow) (content : Content) : Type 0 where
  pub name : List ℕ
  pub is_content : IsContent name content
  pub columns_are : content.columns ≡ columns
  pub cells_are : rows ≡ (content_rows content).cells

-- The sizes are those of a content made from scratch, and lists by their terms are its posting lists. Where the sizes are others there are
-- no lists to compare.
abbrev pub AreTheirs : Content → List ((ℤ × ℤ) × ℤ) → Option (Vec TermLists Global) → Type 0
AreTheirs content sizes None = sizes ≢ sized (index_rows content).sizes
AreTheirs content sizes (Some lists) = (sizes ≡ sized (index_rows content).sizes) × (lists_of_terms lists.items ≡ (index_rows content).lists)
