-- Steps. The documents that a filter chooses, as they are read. All of it is our own choice.
use Rattle.std.specs.Prelude.{◌≡◌, ℤ, List, [], Option, Ok, unwrap_or}
use Rattle.std.specs.Ordering.{int_cmp}
use Rattle.std.specs.FinMap.Entries.{find}
use Rattle.ft_match.specs.Trees.{Tree}
use Rattle.ft_values.specs.Cells.{Cell}
use Rattle.ft_content.specs.Content.{Content}
use Rattle.ft_commands.specs.Command.{Filter, All, Docid, Match}
use Rattle.ft_content.specs.Answer.{reading}

-- the text of a MATCH reads as this query, where the filter is one
abbrev pub ReadsFilterAs : Content → Filter → Option Tree → Type 0
ReadsFilterAs content All query = Unit {0}
ReadsFilterAs content (Docid docid) query = Unit {0}
ReadsFilterAs content (Match name text) query = reading content name text ≡ Ok query

-- the cells of the document of a docid
abbrev pub cells_at : Content → ℤ → List Cell
cells_at content docid = unwrap_or (find int_cmp docid content.documents) []

abbrev pub document_at : Content → ℤ → ℤ × List Cell
document_at content docid = (docid, cells_at content docid)
