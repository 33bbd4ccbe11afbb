-- Meaning. What a store holds of one table. The store's value and its row changes are those of the crate below.
use Rattle.std.specs.Prelude.{◌≡◌, ℕ, List, map, ℤ, Contains}
use Rattle.std.specs.Ordering.{int_eq}
use Rattle.std.specs.FinMap.Entries.{where_key}
use Rattle.ft_rows.specs.Store.{StoreValue, CellKey, ListKey, ColumnKey, cell_key_cmp, list_key_cmp, column_key_cmp}
use Rattle.ft_rows.specs.Store.{Change, PutCell, DropCells, PutEntries, DropEntries, PutSize, DropSize}
use Rattle.ft_content.specs.Content.{Cell, TableRows}
use Rattle.ft_content.specs.Index.{Spot, IndexRows}

-- what is read of one table: its columns, the numbers of those that aren't indexed, and its cells
abbrev pub table_rows : ℤ → StoreValue → TableRows
table_rows tab store = record {
  columns = map (λ (c : ColumnKey × List ℕ). (c.0.1, c.1)) (where_key column_key_cmp (λ k. int_eq tab k.0) store.columns);
  skipped = map (λ (s : ColumnKey × Unit {0}). s.0.1) (where_key column_key_cmp (λ k. int_eq tab k.0) store.skipped);
  cells = map (λ (c : CellKey × Cell). record { docid = c.0.1; column = c.0.2; value = c.1 }) (where_key cell_key_cmp (λ k. int_eq tab k.0) store.cells);
}

-- its posting lists and sizes
abbrev pub table_index : ℤ → StoreValue → IndexRows
table_index tab store = record {
  lists = map (λ (l : ListKey × List Spot). ((l.0.1, l.0.2), l.1)) (where_key list_key_cmp (λ k. int_eq tab k.0) store.lists);
  sizes = map (λ (z : CellKey × ℤ). record { docid = z.0.1; column = z.0.2; n = z.1 }) (where_key cell_key_cmp (λ k. int_eq tab k.0) store.sizes);
}

-- A change names rows of one table and of these documents alone: no change of whole tables.
abbrev pub IsOfDocids : ℤ → List ℤ → Change → Type 0
IsOfDocids id docids (PutCell tab docid column value) = (tab ≡ id) × Contains docids docid
IsOfDocids id docids (DropCells tab docid) = (tab ≡ id) × Contains docids docid
IsOfDocids id docids (PutEntries tab term docid spots) = (tab ≡ id) × Contains docids docid
IsOfDocids id docids (DropEntries tab term docid) = (tab ≡ id) × Contains docids docid
IsOfDocids id docids (PutSize tab docid column n) = (tab ≡ id) × Contains docids docid
IsOfDocids id docids (DropSize tab docid column) = (tab ≡ id) × Contains docids docid
IsOfDocids id docids change = ⊥
