-- Steps. What row changes do to the rows of one table.
use Rattle.std.specs.Prelude.{◌≡◌, false, Option, Some, None, ℤ}
use Rattle.std.specs.Ordering.{int_eq}
use Rattle.ft_rows.specs.Store.{StoreValue, Change, AddTable, DropTable, PutCell, DropCells, PutEntries, DropEntries, PutSize}
use Rattle.ft_rows.specs.Store.{DropSize, ClearIndex, Note, applied}
use Rattle.ft_documents.specs.Tables.{table_rows, table_index}

-- the table that a row change is of
abbrev pub changed_table : Change → Option ℤ
changed_table (AddTable id name columns skipped) = Some id
changed_table (DropTable id) = Some id
changed_table (PutCell tab docid column value) = Some tab
changed_table (DropCells tab docid) = Some tab
changed_table (PutEntries tab term docid spots) = Some tab
changed_table (DropEntries tab term docid) = Some tab
changed_table (PutSize tab docid column n) = Some tab
changed_table (DropSize tab docid column) = Some tab
changed_table (ClearIndex tab) = Some tab
changed_table (Note name) = None

-- A row change of one table leaves the rows of the others.
abbrev pub SparesOthers : Type 0
SparesOthers = (change : Change) (other : ℤ) (store : StoreValue) → ((tab : ℤ) → changed_table change ≡ Some tab → int_eq other tab ≡ false) →
    (table_rows other (applied change store) ≡ table_rows other store) × (table_index other (applied change store) ≡ table_index other store)
