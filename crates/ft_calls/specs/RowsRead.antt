-- Meaning. How many rows a Select reads (own choice).
use Rattle.std.specs.Prelude.{◌≡◌, ℕ, ◌+◌, ◌*◌, ◌^◌, nat_lt, ℤ, Bool, true, false, not, ◌&&◌, ◌||◌, if◌then◌else◌}
use Rattle.std.specs.Prelude.{List, length, Option, Some, None, is_some, Result, Ok}
use Rattle.std.specs.List.{list_any}
use Rattle.ft_match.specs.Trees.{Tree}
use Rattle.ft_query.specs.Work.{entry_count}
use Rattle.ft_values.specs.declared.fault.Fault.{Fault}
use Rattle.ft_content.specs.Content.{Content, is_docid}
use Rattle.ft_commands.specs.Command.{Filter, All, Docid, Match, Item, AllColumns, Named, OffsetsOf, Items, Counted, Listed, Command, Select, Reply, Rows}
use Rattle.ft_content.specs.Answer.{query_in, chosen, cut}
use Rattle.ft_content.specs.Step.{TableState, Sound, Stale, Loose, Table, Contents, table_named}
use Rattle.ft_content.specs.Meaning.{content_documents}
use Rattle.ft_store.specs.Kept.{more_rows}
use Rattle.sqlite.specs.Store.{Ghosts}
use Rattle.ft_calls.specs.Kept.{FullText, IsUp, Holds}

-- an item whose cells are read of the document
abbrev pub reads_document : Item → Bool
reads_document AllColumns = true
reads_document (Named name) = not (is_docid name)
reads_document (OffsetsOf name) = false

-- the entries of the query's terms, each term counted as often as it is written
abbrev pub entries_asked : Content → Option Tree → ℕ
entries_asked content None = 0
entries_asked content (Some tree) = entry_count tree (content_documents content)

-- to count documents: all docids, the cells of the one document, or the entries of the query's terms
abbrev pub count_asked : Content → Filter → ℕ
count_asked content All = length content.documents
count_asked content (Docid docid) = length content.columns * length (chosen content (Docid docid))
count_asked content (Match name text) = entries_asked content (query_in content (Match name text))

-- where an item is a column, one row for each column of each document that is answered
abbrev pub cells_asked : Content → List Item → Filter → Option ℕ → ℕ → ℕ
cells_asked content items f limit offset = if list_any reads_document items then (length content.columns * length (cut limit offset (chosen content f))) else 0

-- whether both numbers have at most 32 bits
abbrev pub are_short : Option ℕ → ℕ → Bool
are_short None offset = nat_lt offset (2 ^ 32)
are_short (Some limit) offset = nat_lt limit (2 ^ 32) && nat_lt offset (2 ^ 32)

-- the docids that are answered, or all of them by longer numbers
abbrev pub docids_asked : Content → Option ℕ → ℕ → ℕ
docids_asked content limit offset = if are_short limit offset then length (cut limit offset content.documents) else length content.documents

-- to list documents: of all without a limit their cells, if an item is a column; else docids or entries, and then the cells of those that
-- are answered
abbrev pub list_asked : Content → List Item → Filter → Option ℕ → ℕ → ℕ
list_asked content items All limit offset =
    if is_some limit || not (list_any reads_document items) then (docids_asked content limit offset + cells_asked content items All limit offset)
    else (length content.columns * length content.documents)
list_asked content items (Docid docid) limit offset = count_asked content (Docid docid)
list_asked content items (Match name text) limit offset = count_asked content (Match name text) + cells_asked content items (Match name text) limit offset

unfoldable pub rows_asked : Content → Items → Filter → Option ℕ → ℕ → ℕ
rows_asked content Counted f limit offset = count_asked content f
rows_asked content (Listed items) f limit offset = list_asked content items f limit offset

abbrev pub CountsHeld : {S : Type 0} → ℕ → FullText S → FullText S → Items → Filter → Option ℕ → TableState → Type 0
CountsHeld offset old new items f limit (Sound content) = new.store.rows_read ≡ more_rows (rows_asked content items f limit offset) old.store
CountsHeld offset old new items f limit (Stale content) = Unit {0}
CountsHeld offset old new items f limit (Loose rows) = Unit {0}

abbrev pub CountsFound : {S : Type 0} → ℕ → FullText S → FullText S → Items → Filter → Option ℕ → Option (ℤ × Table) → Type 0
CountsFound offset old new items f limit None = Unit {0}
CountsFound offset old new items f limit (Some t) = CountsHeld offset old new items f limit t.1.held

abbrev pub CountsCommand : {S : Type 0} → Contents → FullText S → FullText S → Command → Type 0
CountsCommand contents old new (Select table items f limit offset) = CountsFound offset old new items f limit (table_named contents table)
CountsCommand contents old new _ = Unit {0}

abbrev pub CountsIfRows : {S : Type 0} → Contents → FullText S → FullText S → Command → Result Reply Fault → Type 0
CountsIfRows contents old new command (Ok (Rows grid)) = CountsCommand contents old new command
CountsIfRows contents old new command _ = Unit {0}

-- A Select that is answered with rows reads exactly the rows that it asks for.
abbrev pub CountsRows : {S : Type 0} → Ghosts S → FullText S → Command → Result Reply Fault → FullText S → Type 0
CountsRows g old command answer new = IsUp g new → (first : Contents) → Holds g old first → CountsIfRows first old new command answer
