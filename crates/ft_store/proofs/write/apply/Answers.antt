use Rattle.std.proofs.Common.{ap, sym, map, to_z-of_z, FitsSigned, w64, rules, string_bytes}
use Rattle.ft_store.proofs.Common.{length-map, shown_value, AddTable, PutCell, DropCells, DropEntries, PutSize, DropSize, ClearIndex, Note}
use Rattle.ft_store.proofs.Common.{shown_change}
use Rattle.ft_rows.specs.Store.{DropTable}
use Rattle.ft_store.proofs.MadeLemmas.{one_made}
use Rattle.ft_store.proofs.write.apply.Goals as goal

pub returns-in-AddTable : goal.returns-in-AddTable
returns-in-AddTable g c =
    let tab : FitsSigned w64 c.in-AddTable.tab = search rules in
    one_made g.S.Store _ _ _ (AddTable c.in-AddTable.tab (string_bytes c.in-AddTable.name) (map string_bytes c.in-AddTable.columns.items) c.in-AddTable.skipped.items) _ (sym (ap shown_change c.in-AddTable.is)) tt
    (simp (to_z-of_z, tab) at (rw (c.as_str.ensures.value, c.as_slice.ensures.value, c.as_slice-in-AddTable.ensures.value, ← length-map c.in-AddTable.columns.items string_bytes) at c.add_table.ensures))

pub returns-in-DropTable : goal.returns-in-DropTable
returns-in-DropTable g c =
    let tab : FitsSigned w64 c.in-DropTable.tab = search rules in
    one_made g.S.Store _ _ _ (DropTable c.in-DropTable.tab) _ (sym (ap shown_change c.in-DropTable.is)) tt (simp (to_z-of_z, tab) at c.clear_rows.ensures)

pub returns-in-PutCell : goal.returns-in-PutCell
returns-in-PutCell g c =
    let tab : FitsSigned w64 c.in-PutCell.tab = search rules in
    let docid : FitsSigned w64 c.in-PutCell.docid = search rules in
    let column : FitsSigned w64 c.in-PutCell.column = search rules in
    one_made g.S.Store _ _ _ (PutCell c.in-PutCell.tab c.in-PutCell.docid c.in-PutCell.column (shown_value c.in-PutCell.value)) _ (sym (ap shown_change c.in-PutCell.is)) tt (simp (to_z-of_z, tab, docid, column) at c.put_cell.ensures)

pub returns-in-DropCells : goal.returns-in-DropCells
returns-in-DropCells g c =
    let tab : FitsSigned w64 c.in-DropCells.tab = search rules in
    let docid : FitsSigned w64 c.in-DropCells.docid = search rules in
    one_made g.S.Store _ _ _ (DropCells c.in-DropCells.tab c.in-DropCells.docid) _ (sym (ap shown_change c.in-DropCells.is)) tt (simp (to_z-of_z, tab, docid) at c.drop_cells.ensures)

pub returns-in-DropEntries : goal.returns-in-DropEntries
returns-in-DropEntries g c =
    let tab : FitsSigned w64 c.in-DropEntries.tab = search rules in
    let docid : FitsSigned w64 c.in-DropEntries.docid = search rules in
    one_made g.S.Store _ _ _ (DropEntries c.in-DropEntries.tab (string_bytes c.in-DropEntries.term) c.in-DropEntries.docid) _ (sym (ap shown_change c.in-DropEntries.is)) tt
    (simp (to_z-of_z, tab, docid) at (rw c.as_str-in-DropEntries.ensures.value at c.drop_list.ensures))

pub returns-in-PutSize : goal.returns-in-PutSize
returns-in-PutSize g c =
    let tab : FitsSigned w64 c.in-PutSize.tab = search rules in
    let docid : FitsSigned w64 c.in-PutSize.docid = search rules in
    let column : FitsSigned w64 c.in-PutSize.column = search rules in
    let n : FitsSigned w64 c.in-PutSize.n = search rules in
    one_made g.S.Store _ _ _ (PutSize c.in-PutSize.tab c.in-PutSize.docid c.in-PutSize.column c.in-PutSize.n) _ (sym (ap shown_change c.in-PutSize.is)) tt (simp (to_z-of_z, tab, docid, column, n) at c.put_size.ensures)

pub returns-in-DropSize : goal.returns-in-DropSize
returns-in-DropSize g c =
    let tab : FitsSigned w64 c.in-DropSize.tab = search rules in
    let docid : FitsSigned w64 c.in-DropSize.docid = search rules in
    let column : FitsSigned w64 c.in-DropSize.column = search rules in
    one_made g.S.Store _ _ _ (DropSize c.in-DropSize.tab c.in-DropSize.docid c.in-DropSize.column) _ (sym (ap shown_change c.in-DropSize.is)) tt (simp (to_z-of_z, tab, docid, column) at c.drop_size.ensures)

pub returns-in-ClearIndex : goal.returns-in-ClearIndex
returns-in-ClearIndex g c =
    let tab : FitsSigned w64 c.in-ClearIndex.tab = search rules in
    one_made g.S.Store _ _ _ (ClearIndex c.in-ClearIndex.tab) _ (sym (ap shown_change c.in-ClearIndex.is)) tt (simp (to_z-of_z, tab) at c.clear_index.ensures)

pub returns-in-Note : goal.returns-in-Note
returns-in-Note g c = one_made g.S.Store _ _ _ (Note (string_bytes c.in-Note.name)) _ (sym (ap shown_change c.in-Note.is)) tt (rw c.as_str-in-Note.ensures.value at c.put_note.ensures.changes)
