-- Meaning. A store seen as a value: rows under their keys, in the order of the keys, and what row changes make of them. All of it is our
-- own choice.
use Rattle.std.specs.Prelude.{ℕ, ℤ, pos, not, ◌&&◌, List, [], ◌∷◌, IsTrue}
use Rattle.std.specs.declared.cmp.Ordering.{Ordering}
use Rattle.std.specs.Ordering.{int_cmp, int_eq, eq_by_cmp, nat_cmp, ordering_then}
use Rattle.std.specs.Cmp.Lexicographic.{slice_cmp}
use Rattle.std.specs.List.{enumerate_from}
use Rattle.std.specs.FinMap.Entries.{put, where_key, is_sorted}
use Rattle.sqlite_value.specs.Keys.{without_case}
use Rattle.ft_values.specs.declared.rows.Spot.{Spot}
use Rattle.ft_values.specs.Cells.{Cell}

-- a table with a docid and a column, a table with a term and a docid, and a table with a column
abbrev pub CellKey : Type 0
CellKey = ℤ × ℤ × ℤ

abbrev pub ListKey : Type 0
ListKey = ℤ × List ℕ × ℤ

abbrev pub ColumnKey : Type 0
ColumnKey = ℤ × ℤ

abbrev pub cell_key_cmp : CellKey → CellKey → Ordering
cell_key_cmp a b = ordering_then (int_cmp a.0 b.0) (ordering_then (int_cmp a.1 b.1) (int_cmp a.2 b.2))

-- terms are ordered by their bytes
abbrev pub list_key_cmp : ListKey → ListKey → Ordering
list_key_cmp a b = ordering_then (int_cmp a.0 b.0) (ordering_then (slice_cmp nat_cmp a.1 b.1) (int_cmp a.2 b.2))

abbrev pub column_key_cmp : ColumnKey → ColumnKey → Ordering
column_key_cmp a b = ordering_then (int_cmp a.0 b.0) (int_cmp a.1 b.1)

-- names in the order of their bytes
abbrev pub name_cmp : List ℕ → List ℕ → Ordering
name_cmp = slice_cmp nat_cmp

-- What the database holds. Rows of tables that aren't there may stand too. A posting row whose packed list is damaged shows as an empty
-- list, which no index has. A noted name stands under its small letters, as SQLite's NOCASE has them.
pub record StoreValue : Type 0 where
  pub tables : List (ℤ × List ℕ)
  pub columns : List (ColumnKey × List ℕ)
  pub skipped : List (ColumnKey × Unit {0})
  pub cells : List (CellKey × Cell)
  pub lists : List (ListKey × List Spot)
  pub sizes : List (CellKey × ℤ)
  pub noted : List (List ℕ × List ℕ)

-- Rows stand in the order of their keys, each key once.
pub record AreInOrder (store : StoreValue) : Type 0 where
  pub tables : IsTrue (is_sorted int_cmp store.tables)
  pub columns : IsTrue (is_sorted column_key_cmp store.columns)
  pub skipped : IsTrue (is_sorted column_key_cmp store.skipped)
  pub cells : IsTrue (is_sorted cell_key_cmp store.cells)
  pub lists : IsTrue (is_sorted list_key_cmp store.lists)
  pub sizes : IsTrue (is_sorted cell_key_cmp store.sizes)
  pub noted : IsTrue (is_sorted name_cmp store.noted)

-- A change of rows. A table's columns are numbered from 0 in their order; `skipped` has the numbers of those that aren't indexed.
pub data Change : Type 0 where
  AddTable : (id : ℤ) → (name : List ℕ) → (columns : List (List ℕ)) → (skipped : List ℤ) → Change
  DropTable : (id : ℤ) → Change
  PutCell : (tab docid column : ℤ) → (value : Cell) → Change
  DropCells : (tab docid : ℤ) → Change
  PutEntries : (tab : ℤ) → (term : List ℕ) → (docid : ℤ) → (spots : List Spot) → Change
  DropEntries : (tab : ℤ) → (term : List ℕ) → (docid : ℤ) → Change
  PutSize : (tab docid column n : ℤ) → Change
  DropSize : (tab docid column : ℤ) → Change
  ClearIndex : (tab : ℤ) → Change
  Note : (name : List ℕ) → Change

-- without the rows of a table: its index rows, and all of them
abbrev pub without_index : ℤ → StoreValue → StoreValue
without_index tab store = record store {
  lists = where_key list_key_cmp (λ k. not (int_eq tab k.0)) store.lists;
  sizes = where_key cell_key_cmp (λ k. not (int_eq tab k.0)) store.sizes;
}

abbrev pub without_rows : ℤ → StoreValue → StoreValue
without_rows tab store = record (without_index tab store) {
  tables = where_key int_cmp (λ k. not (int_eq tab k)) store.tables;
  columns = where_key column_key_cmp (λ k. not (int_eq tab k.0)) store.columns;
  skipped = where_key column_key_cmp (λ k. not (int_eq tab k.0)) store.skipped;
  cells = where_key cell_key_cmp (λ k. not (int_eq tab k.0)) store.cells;
}

abbrev pub with_columns : ℤ → List (ℕ × List ℕ) → List (ColumnKey × List ℕ) → List (ColumnKey × List ℕ)
with_columns tab [] columns = columns
with_columns tab (c ∷ cs) columns = with_columns tab cs (put column_key_cmp (tab, pos c.0) c.1 columns)

abbrev pub with_skipped : ℤ → List ℤ → List (ColumnKey × Unit {0}) → List (ColumnKey × Unit {0})
with_skipped tab [] skipped = skipped
with_skipped tab (column ∷ columns) skipped = with_skipped tab columns (put column_key_cmp (tab, column) tt skipped)

-- rows without the one of a key
abbrev pub without_key : {K X : Type 0} → (K → K → Ordering) → K → List (K × X) → List (K × X)
without_key R key rows = where_key R (λ k. not (eq_by_cmp R key k)) rows

-- with a name noted in its latest spelling
abbrev pub with_note : List ℕ → StoreValue → StoreValue
with_note name store = record store { noted = put name_cmp (without_case name) name store.noted }

-- A table that is added has its columns, with the numbers of those that are not indexed by rising number, and no other row. A row that is
-- put replaces the one of its key.
abbrev pub applied : Change → StoreValue → StoreValue
applied (AddTable id name columns skipped) store =
    let bare = without_rows id store in
    record bare {
      tables = put int_cmp id name bare.tables;
      columns = with_columns id (enumerate_from 0 columns) bare.columns;
      skipped = with_skipped id skipped bare.skipped;
    }
applied (DropTable id) store = without_rows id store
applied (PutCell tab docid column value) store = record store { cells = put cell_key_cmp (tab, docid, column) value store.cells }
applied (DropCells tab docid) store = record store { cells = where_key cell_key_cmp (λ k. not (int_eq tab k.0 && int_eq docid k.1)) store.cells }
applied (PutEntries tab term docid spots) store = record store { lists = put list_key_cmp (tab, term, docid) spots store.lists }
applied (DropEntries tab term docid) store = record store { lists = without_key list_key_cmp (tab, term, docid) store.lists }
applied (PutSize tab docid column n) store = record store { sizes = put cell_key_cmp (tab, docid, column) n store.sizes }
applied (DropSize tab docid column) store = record store { sizes = without_key cell_key_cmp (tab, docid, column) store.sizes }
applied (ClearIndex tab) store = without_index tab store
applied (Note name) store = with_note name store

-- in their order
abbrev pub all_applied : List Change → StoreValue → StoreValue
all_applied [] store = store
all_applied (change ∷ changes) store = all_applied changes (applied change store)

abbrev pub nothing_held : StoreValue
nothing_held = record { tables = []; columns = []; skipped = []; cells = []; lists = []; sizes = []; noted = [] }
