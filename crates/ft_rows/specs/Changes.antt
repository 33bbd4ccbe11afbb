-- Meaning. The row changes of a call as changes of the store's value.
use Rattle.std.specs.Prelude.{map, string_bytes}
use Rattle.ft_values.specs.declared.rows.RowChange.{RowChange}
use Rattle.ft_values.specs.declared.rows.RowChange.TheVariants as row
use Rattle.ft_rows.specs.Packed.{CanPack}
use Rattle.ft_values.specs.Cells.{shown_value}
use Rattle.ft_rows.specs.Store.{Change, AddTable, DropTable, PutCell, DropCells, PutEntries, DropEntries, PutSize, DropSize, ClearIndex, Note}

abbrev pub shown_change : RowChange → Change
shown_change (row.AddTable id name columns skipped) = AddTable id (string_bytes name) (map string_bytes columns.items) skipped.items
shown_change (row.DropTable id) = DropTable id
shown_change (row.PutCell tab docid at v) = PutCell tab docid at (shown_value v)
shown_change (row.DropCells tab docid) = DropCells tab docid
shown_change (row.PutEntries tab term docid spots) = PutEntries tab (string_bytes term) docid spots.items
shown_change (row.DropEntries tab term docid) = DropEntries tab (string_bytes term) docid
shown_change (row.PutSize tab docid at n) = PutSize tab docid at n
shown_change (row.DropSize tab docid at) = DropSize tab docid at
shown_change (row.ClearIndex tab) = ClearIndex tab
shown_change (row.Note name) = Note (string_bytes name)

-- places that are put can be packed
abbrev pub CanApply : RowChange → Type 0
CanApply (row.PutEntries tab term docid spots) = CanPack spots.items
CanApply _ = Unit {0}
