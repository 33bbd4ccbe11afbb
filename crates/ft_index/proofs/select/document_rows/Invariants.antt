-- the rows so far
use Rattle.std.proofs.Common.{◌≡◌, None, false, map, take}
use Rattle.ft_index.proofs.Common.{list_any, item_rows, is_offsets, bare_content, rows_of, item_of, shown_document}
use Rattle.ft_index.proofs.select.document_rows.Given as goal

abbrev pub invariant-loop-document : goal.invariant-loop-document
invariant-loop-document l = list_any is_offsets (map item_of l.items) ≡ false → rows_of l.rows ≡ item_rows None (bare_content l.columns) (map item_of l.items) (map shown_document (take l.document-index l.documents))
