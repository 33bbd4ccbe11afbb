-- Steps. The rows that the queries of a store give, as rows under their keys.
use Rattle.std.specs.Prelude.{ℕ, ℤ, List, [], unwrap_or, string_bytes}
use Rattle.ft_values.specs.declared.rows.Spot.{Spot}
use Rattle.ft_values.specs.declared.rows.TabRow.{TabRow}
use Rattle.ft_rows.specs.Packed.{unpacked}
use Rattle.sqlite.specs.Order.{Row, column}
use Rattle.sqlite_value.specs.Order.{bytes}
use Rattle.sqlite_value.specs.Keys.{without_case}
use Rattle.sqlite_rules.specs.Edit.{id_in}
use Rattle.ft_values.specs.Cells.{Cell}
use Rattle.ft_rows.specs.Store.{CellKey, ListKey, ColumnKey}
use Rattle.ft_store.specs.Rows.{text_in, cell_in}

-- a table's number and name
abbrev pub id_and_name : TabRow → ℤ × List ℕ
id_and_name table = (table.id, string_bytes table.name)

abbrev pub found_table : Row → ℤ × List ℕ
found_table row = (id_in (column row 0), bytes (column row 1))

abbrev pub found_column : ℤ → Row → ColumnKey × List ℕ
found_column tab row = ((tab, id_in (column row 0)), text_in (bytes (column row 1)))

abbrev pub found_skip : ℤ → Row → ColumnKey × Unit {0}
found_skip tab row = ((tab, id_in (column row 0)), tt)

abbrev pub found_cell : ℤ → Row → CellKey × Cell
found_cell tab row = ((tab, id_in (column row 0), id_in (column row 1)), cell_in (column row 2) (column row 3))

abbrev pub found_size : ℤ → Row → CellKey × ℤ
found_size tab row = ((tab, id_in (column row 0), id_in (column row 1)), id_in (column row 2))

abbrev pub found_note : Row → List ℕ × List ℕ
found_note row = (without_case (bytes (column row 0)), bytes (column row 0))

-- a list as its places, none where it is damaged: its docid and its bytes come first
abbrev pub found_spots : Row → ℤ × List Spot
found_spots row = (id_in (column row 0), unwrap_or (unpacked (bytes (column row 1))) [])

-- a list as its bytes, with its term after them
abbrev pub found_list : ℤ → Row → ListKey × List ℕ
found_list tab row = ((tab, bytes (column row 2), id_in (column row 0)), bytes (column row 1))

-- the same as its places
abbrev pub found_places : ℤ → Row → ListKey × List Spot
found_places tab row = ((found_list tab row).0, (found_spots row).1)
