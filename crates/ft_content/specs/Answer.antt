-- Meaning. What a Select answers ("Simple FTS Queries").
use Rattle.std.specs.Prelude.{ℕ, Bool, true, false, if◌then◌else◌, List, [], ◌∷◌, ◌++◌, map, length, take, drop, filter, position, Option}
use Rattle.std.specs.Prelude.{Some, None, Result, ℤ, pos, codes, unwrap_or, option_and_then, slice_get}
use Rattle.std.specs.List.{flat_map}
use Rattle.std.specs.Option.{option_map_or}
use Rattle.std.specs.Result.{result_unwrap_or}
use Rattle.std.specs.Ordering.{int_eq}
use Rattle.ft_match.specs.declared.query.QueryFault.{QueryFault}
pub use Rattle.ft_match.specs.Trees.{Tree}
use Rattle.ft_match.specs.Reads.{query_of}
use Rattle.ft_match.specs.Occurs.{accepts, offsets_of, offsets_text}
use Rattle.ft_content.specs.Content.{Cell, Null, Int, Text, Documents, Content, same_name, is_docid, names_of}
use Rattle.ft_content.specs.Index.{document_postings}
use Rattle.ft_commands.specs.Command.{Filter, All, Docid, Match, Item, AllColumns, Named, OffsetsOf, Items, Counted, Listed, Grid}

-- the column with this name. A MATCH name that is no column is the table, and stands for every column ("Simple FTS Queries")
abbrev pub column_place : Content → List ℕ → Option ℕ
column_place content name = position (same_name name) (names_of content.columns)

-- What the text of a MATCH reads as over a content's columns: a query, none where it has no lexeme, or a fault. A phrase without filter is
-- of the column that the MATCH names, and of any column where it names the table.
unfoldable pub reading : Content → List ℕ → List ℕ → Result (Option Tree) QueryFault
reading content name text = query_of (names_of content.columns) (column_place content name) text

-- the query of a filter, if it has one
abbrev pub query_in : Content → Filter → Option Tree
query_in content (Match name text) = result_unwrap_or (reading content name text) None
query_in content f = None

-- Whether a filter chooses a document. A text without lexemes chooses none (own choice).
abbrev pub is_chosen : Content → Filter → ℤ × List Cell → Bool
is_chosen content All = λ document. true
is_chosen content (Docid docid) = λ document. int_eq docid document.0
is_chosen content (Match name text) =
    λ document. option_map_or (accepts (document_postings content.columns document.1)) (query_in content (Match name text)) false

-- the documents that a filter chooses, by rising docid (own choice)
unfoldable pub chosen : Content → Filter → Documents
chosen content f = filter (is_chosen content f) content.documents

-- a column's name as declared (own choice)
abbrev pub header : Content → List ℕ → List ℕ
header content name =
    if is_docid name then (if same_name name (codes "docid") then codes "docid" else codes "rowid")
    else unwrap_or (option_and_then (slice_get (names_of content.columns)) (column_place content name)) []

abbrev pub item_headers : List ℕ → Content → Item → List (List ℕ)
item_headers table content AllColumns = names_of content.columns
item_headers table content (Named name) = header content name ∷ []
item_headers table content (OffsetsOf name) = (codes "offsets(" ++ table ++ codes ")") ∷ []

-- the cell of a document under a name
abbrev pub named_cell : Content → ℤ × List Cell → List ℕ → Cell
named_cell content document name = if is_docid name then Int document.0 else unwrap_or (option_and_then (slice_get document.1) (column_place content name)) Null

-- the offsets of the query in a document, as one text ("The Offsets Function")
abbrev pub offsets_cell : Option Tree → Content → ℤ × List Cell → Cell
offsets_cell query content document = Text (offsets_text (option_map_or (offsets_of (document_postings content.columns document.1)) query []))

-- the cells of an item, where the offsets of the query in the document are this cell
abbrev pub cells_with : Cell → Content → ℤ × List Cell → Item → List Cell
cells_with offsets content document AllColumns = document.1
cells_with offsets content document (Named name) = named_cell content document name ∷ []
cells_with offsets content document (OffsetsOf name) = offsets ∷ []

abbrev pub item_cells : Option Tree → Content → ℤ × List Cell → Item → List Cell
item_cells query content document AllColumns = document.1
item_cells query content document (Named name) = named_cell content document name ∷ []
item_cells query content document (OffsetsOf name) = offsets_cell query content document ∷ []

-- a row with the items of each document
abbrev pub item_rows : Option Tree → Content → List Item → Documents → List (List Cell)
item_rows query content items documents = map (λ (document : ℤ × List Cell). flat_map (item_cells query content document) items) documents

-- First offset rows are dropped, then at most limit kept. The one row of a count is cut in the same way (own choice).
abbrev pub cut : {A : Type 0} → Option ℕ → ℕ → List A → List A
cut None offset rows = drop offset rows
cut (Some limit) offset rows = take limit (drop offset rows)

-- the rows of a Select: one for each chosen document, or for a count one with their number
abbrev pub answer_rows : Content → Items → Filter → List (List Cell)
answer_rows content Counted f = (Int (pos (length (chosen content f))) ∷ []) ∷ []
answer_rows content (Listed items) f = item_rows (query_in content f) content items (chosen content f)

abbrev pub answer_names : List ℕ → Content → Items → List (List ℕ)
answer_names table content Counted = codes "count(*)" ∷ []
answer_names table content (Listed items) = flat_map (item_headers table content) items

-- the answer of a Select over a table of this name
unfoldable pub answer : List ℕ → Content → Items → Filter → Option ℕ → ℕ → Grid
answer table content items f limit offset = record { names = answer_names table content items; rows = cut limit offset (answer_rows content items f) }
