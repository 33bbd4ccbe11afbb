-- Meaning. What the trees of a store stand for. Column 0 of a row is its rowid.
use Rattle.std.specs.Prelude.{ℕ, ℤ, if◌then◌else◌, List, [], ◌∷◌, map, unwrap_or}
use Rattle.std.specs.Str.{is_utf8}
use Rattle.std.specs.declared.cmp.Ordering.{Ordering}
use Rattle.std.specs.Ordering.{int_cmp}
use Rattle.std.specs.FinMap.Entries.{put}
use Rattle.sqlite_value.specs.declared.value.Value.{Value}
use Rattle.sqlite_value.specs.declared.value.Value.TheVariants as value
use Rattle.sqlite_value.specs.Order.{Row, column, bytes}
use Rattle.sqlite_value.specs.Keys.{without_case}
use Rattle.sqlite_trees.specs.Tree.{Trees}
use Rattle.sqlite_rules.specs.Edit.{id_in}
use Rattle.ft_values.specs.declared.rows.Spot.{Spot}
use Rattle.ft_rows.specs.Packed.{unpacked}
use Rattle.ft_values.specs.Cells.{Cell, Null, Int, Text}
use Rattle.ft_rows.specs.Store.{CellKey, ListKey, ColumnKey, cell_key_cmp, list_key_cmp, column_key_cmp, name_cmp, StoreValue}

-- rows under their keys, in the order of the keys; of two with one key the first counts
abbrev pub keyed : {K X : Type 0} → (K → K → Ordering) → List (K × X) → List (K × X)
keyed R [] = []
keyed R (e ∷ es) = put R e.0 e.1 (keyed R es)

-- A text of a cell or a column. Bytes that aren't UTF-8 show as the character U+0000, which no content has: so their table is no content's.
abbrev pub text_in : List ℕ → List ℕ
text_in stored = if is_utf8 stored then stored else (0 ∷ [])

-- a cell of its two columns, of which one at most is not NULL
abbrev pub cell_in : Value → Value → Cell
cell_in (value.Int n) b = Int n
cell_in a (value.Text t) = Text (text_in t)
cell_in a b = Null

-- the two columns of a cell
abbrev pub num_of : Cell → Value
num_of (Int n) = value.Int n
num_of _ = value.Null

abbrev pub txt_of : Cell → Value
txt_of (Text t) = value.Text t
txt_of _ = value.Null

-- none for a damaged list
abbrev pub spots_or_none : Value → List Spot
spots_or_none v = unwrap_or (unpacked (bytes v)) []

abbrev pub table_entry : Row → ℤ × List ℕ
table_entry row = (id_in (column row 0), bytes (column row 2))

abbrev pub column_key : Row → ColumnKey
column_key row = (id_in (column row 1), id_in (column row 2))

abbrev pub column_entry : Row → ColumnKey × List ℕ
column_entry row = (column_key row, text_in (bytes (column row 3)))

abbrev pub skip_entry : Row → ColumnKey × Unit {0}
skip_entry row = (column_key row, tt)

abbrev pub cell_key : Row → CellKey
cell_key row = (id_in (column row 1), id_in (column row 2), id_in (column row 3))

abbrev pub cell_entry : Row → CellKey × Cell
cell_entry row = (cell_key row, cell_in (column row 4) (column row 5))

abbrev pub list_key : Row → ListKey
list_key row = (id_in (column row 1), bytes (column row 2), id_in (column row 3))

abbrev pub list_entry : Row → ListKey × List Spot
list_entry row = (list_key row, spots_or_none (column row 4))

abbrev pub size_entry : Row → CellKey × ℤ
size_entry row = (cell_key row, id_in (column row 4))

abbrev pub note_entry : Row → List ℕ × List ℕ
note_entry row = (without_case (bytes (column row 1)), bytes (column row 1))

-- the value that trees stand for
abbrev pub value_of : Trees → StoreValue
value_of db = record {
  tables = keyed int_cmp (map table_entry (db 1));
  columns = keyed column_key_cmp (map column_entry (db 3));
  skipped = keyed column_key_cmp (map skip_entry (db 13));
  cells = keyed cell_key_cmp (map cell_entry (db 5));
  lists = keyed list_key_cmp (map list_entry (db 7));
  sizes = keyed cell_key_cmp (map size_entry (db 9));
  noted = keyed name_cmp (map note_entry (db 11));
}
