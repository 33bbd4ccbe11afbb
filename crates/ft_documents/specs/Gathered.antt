-- Steps. Documents and rows in memory, as the definitions see them.
use Rattle.std.specs.Prelude.{◌++◌, if◌then◌else◌, List, [], ◌∷◌, map, Option, Some, None, Bool, false, ℤ}
use Rattle.std.specs.Ordering.{int_eq}
use Rattle.ft_values.specs.declared.rows.CellRow as source
use Rattle.ft_values.specs.Cells.{Cell, shown_value}
use Rattle.ft_content.specs.Content.{CellRow, Documents}
use Rattle.ft_content.specs.Step.{has_docid}
use Rattle.ft_documents.specs.declared.documents.Document.{Document}

-- a document as it is read
abbrev pub shown_document : Document → ℤ × List Cell
shown_document d = (d.docid, map shown_value d.cells.items)

abbrev pub gathered_row : source.CellRow → CellRow
gathered_row row = record { docid = row.docid; column = row.column; value = shown_value row.value }

-- the documents with one more cell, which joins the last document, if that has its docid (own choice)
abbrev pub with_last : CellRow → Documents → Documents
with_last row [] = (row.docid, row.value ∷ []) ∷ []
with_last row (d ∷ []) = if int_eq d.0 row.docid then ((d.0, d.1 ++ row.value ∷ []) ∷ []) else (d ∷ (row.docid, row.value ∷ []) ∷ [])
with_last row (d ∷ e ∷ documents) = d ∷ with_last row (e ∷ documents)

-- whether a docid is given and taken
abbrev pub has_given : Documents → Option ℤ → Bool
has_given documents None = false
has_given documents (Some docid) = has_docid documents docid
