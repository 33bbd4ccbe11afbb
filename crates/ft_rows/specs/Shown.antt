-- Meaning. The rows that reads give, as rows under their keys.
use Rattle.std.specs.Prelude.{◌≡◌, ◌≢◌, ℕ, ℤ, false, ◌&&◌, List, [], map, length, sum_by, reverse, nat_eq}
use Rattle.std.specs.Prelude.{slice_get, Option, option_map, string_bytes, String}
use Rattle.std.specs.List.{AllByRecursion, flat_map, starts_with}
use Rattle.std.specs.declared.alloc.Global.{Global}
use Rattle.std.specs.Ordering.{int_eq, is_eq}
use Rattle.std.specs.FinMap.Entries.{where_key}
use Rattle.sqlite_value.specs.Keys.{without_case}
use Rattle.ft_values.specs.declared.rows.CellRow.{CellRow}
use Rattle.ft_values.specs.declared.rows.SizeRow.{SizeRow}
use Rattle.ft_values.specs.declared.rows.EntryRow.{EntryRow}
use Rattle.ft_values.specs.declared.rows.ListRow.{ListRow}
use Rattle.ft_values.specs.declared.rows.Spot.{Spot}
use Rattle.ft_values.specs.declared.rows.TabRow.{TabRow}
use Rattle.ft_values.specs.Cells.{Cell, shown_value}
use Rattle.ft_values.specs.Names.{repeats_name}
use Rattle.ft_rows.specs.Store.{CellKey, ListKey, ColumnKey, cell_key_cmp, list_key_cmp, column_key_cmp, name_cmp, StoreValue}

abbrev pub shown_cell : ℤ → CellRow → CellKey × Cell
shown_cell tab row = ((tab, row.docid, row.column), shown_value row.value)

abbrev pub shown_size : ℤ → SizeRow → CellKey × ℤ
shown_size tab row = ((tab, row.docid, row.column), row.n)

abbrev pub shown_column : ℤ → ℤ × String Global → ColumnKey × List ℕ
shown_column tab c = ((tab, c.0), string_bytes c.1)

abbrev pub shown_skip : ℤ → ℤ → ColumnKey × Unit {0}
shown_skip tab column = ((tab, column), tt)

abbrev pub shown_note : String Global → List ℕ × List ℕ
shown_note name = (without_case (string_bytes name), string_bytes name)

abbrev pub shown_list : ListRow → ℤ × List Spot
shown_list l = (l.docid, l.spots.items)

-- a list without its table and its term
abbrev pub bare_list : ListKey × List Spot → ℤ × List Spot
bare_list l = (l.0.2, l.1)

-- the lists under the keys of a table and a term
abbrev pub lists_under_term : ℤ → List ℕ → StoreValue → List (ListKey × List Spot)
lists_under_term tab term store = where_key list_key_cmp (λ k. int_eq tab k.0 && is_eq (name_cmp term k.1)) store.lists

-- the lists under the keys of a table and the terms that begin so
abbrev pub lists_of_prefix : ℤ → List ℕ → StoreValue → List (ListKey × List Spot)
lists_of_prefix tab begin store = where_key list_key_cmp (λ k. int_eq tab k.0 && starts_with nat_eq k.1 begin) store.lists

-- how many places lists have
abbrev pub spot_count : List (ℤ × List Spot) → ℕ
spot_count lists = sum_by (λ l. length l.1) lists

-- an entry: a term, a docid and a place
abbrev pub StoredEntry : Type 0
StoredEntry = List ℕ × ℤ × Spot

abbrev pub shown_entry : EntryRow → StoredEntry
shown_entry e = (string_bytes e.term, e.docid, e.spot)

-- one entry for each place of a list of this term, in its order
abbrev pub entries_with : List ℕ → ℤ × List Spot → List StoredEntry
entries_with term l = map (λ s. (term, l.0, s)) l.1

abbrev pub entries_of_list : ListKey × List Spot → List StoredEntry
entries_of_list l = entries_with l.0.1 (bare_list l)

abbrev pub entries_of : List (ListKey × List Spot) → List StoredEntry
entries_of = flat_map entries_of_list

-- no list is damaged
abbrev pub AreWhole : {K : Type 0} → List (K × List Spot) → Type 0
AreWhole lists = AllByRecursion (λ l. l.1 ≢ []) lists

abbrev pub SomeDamaged : {K : Type 0} → List (K × List Spot) → Type 0
SomeDamaged lists = ¬ AreWhole lists

-- rows of these lists, of which none is damaged
abbrev pub AreListRows : List (ListKey × List Spot) → List ListRow → Type 0
AreListRows lists rows = (map shown_list rows ≡ map bare_list lists) × AreWhole lists

-- A table as it is listed: its number and its name, its columns by their rising numbers, and the numbers of those that aren't indexed.
pub record Listed : Type 0 where
  pub id : ℤ
  pub name : List ℕ
  pub columns : List (ℤ × List ℕ)
  pub skipped : List ℤ

abbrev pub shown_table : TabRow → Listed
shown_table t = record { id = t.id; name = string_bytes t.name; columns = map (λ c. (c.0, string_bytes c.1)) t.columns.items; skipped = t.skipped.items }

abbrev pub table_listed : StoreValue → ℤ × List ℕ → Listed
table_listed store t = record {
  id = t.0;
  name = t.1;
  columns = map (λ c. (c.0.1, c.1)) (where_key column_key_cmp (λ k. int_eq t.0 k.0) store.columns);
  skipped = map (λ s. s.0.1) (where_key column_key_cmp (λ k. int_eq t.0 k.0) store.skipped);
}

-- all tables, by their rising numbers
abbrev pub tables_listed : StoreValue → List Listed
tables_listed store = map (table_listed store) store.tables

-- The greatest docid of a table's cells. Cells stand by rising docid, so it is that of the last one.
abbrev pub last_docid_of : ℤ → List (CellKey × Cell) → Option ℤ
last_docid_of tab cells = option_map (λ c. c.0.1) (slice_get (reverse (where_key cell_key_cmp (λ k. int_eq tab k.0) cells)) 0)

-- no two tables have one name
abbrev pub AreNamedApart : StoreValue → Type 0
AreNamedApart store = repeats_name (map (λ t. t.1) store.tables) ≡ false
