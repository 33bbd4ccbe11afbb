-- Meaning. The row changes that follow from documents which are written anew. All of it is our own choice.
use Rattle.std.specs.Prelude.{◌≡◌, ◌≤◌, length, ℕ, zero, suc, Bool, true, false, not, ◌&&◌, ◌==◌, List, [], ◌∷◌, ◌++◌, map, filter, Option}
use Rattle.std.specs.Prelude.{Some, None, ℤ, pos, is_some, unwrap_or, bytes_eq}
use Rattle.std.specs.List.{flat_map, enumerate_from}
use Rattle.std.specs.declared.cmp.Ordering.{Ordering}
use Rattle.std.specs.Fmt.{signed_decimal}
use Rattle.std.specs.Ordering.{int_cmp, int_eq}
use Rattle.std.specs.Cmp.Lexicographic.{pointwise}
use Rattle.std.specs.FinMap.Entries.{put, find}
use Rattle.ft_values.specs.Cells.{Cell, Null, Int, Text}
use Rattle.ft_rows.specs.Store.{column_key_cmp, Change, PutCell, DropCells, PutEntries, DropEntries, PutSize, DropSize}
use Rattle.ft_match.specs.Tokens.{PlainToken}
use Rattle.ft_match.specs.Documents.{posting}
use Rattle.ft_content.specs.Content.{Column, Documents}
use Rattle.ft_content.specs.Index.{Entry, document_entries, document_sizes, entry_at, Key, key_cmp, key_of, Spot}
use Rattle.ft_content.specs.Index.{SizeRow, index_rows}
use Rattle.ft_content.specs.Laws.{content_with}
use Rattle.ft_documents.specs.Rewrite.{Rewrite, befores, afters}

-- whether two cells, and two lists of spots, are the same
abbrev pub same_cell : Cell → Cell → Bool
same_cell Null Null = true
same_cell Null (Int n) = false
same_cell Null (Text t) = false
same_cell (Int m) Null = false
same_cell (Int m) (Int n) = int_eq m n
same_cell (Int m) (Text t) = false
same_cell (Text s) Null = false
same_cell (Text s) (Int n) = false
same_cell (Text s) (Text t) = bytes_eq s t

abbrev pub same_spot : Spot → Spot → Bool
same_spot s t = (s.column == t.column) && ((s.pos == t.pos) && ((s.place == t.place) && (s.size == t.size)))

abbrev pub same_spots : List Spot → List Spot → Bool
same_spots = pointwise same_spot

-- whether exactly this was there
abbrev pub was_there : {V : Type 0} → (V → V → Bool) → Option V → V → Bool
was_there same None value = false
was_there same (Some held) value = same held value

-- the rows that are gone, and those that are new or differ
abbrev pub gone : {K V : Type 0} → (K → K → Ordering) → List (K × V) → List (K × V) → List (K × V)
gone R old new = filter (λ e. not (is_some (find R e.0 new))) old

abbrev pub changed : {K V : Type 0} → (K → K → Ordering) → (V → V → Bool) → List (K × V) → List (K × V) → List (K × V)
changed R same old new = filter (λ e. not (was_there same (find R e.0 old) e.1)) new

-- cells under the numbers of their columns
abbrev pub numbered_cells : List Cell → List (ℤ × Cell)
numbered_cells cells = map (λ (c : ℕ × Cell). (pos c.0, c.1)) (enumerate_from 0 cells)

-- sizes under docid and column
abbrev pub sized : List SizeRow → List ((ℤ × ℤ) × ℤ)
sized sizes = map (λ (s : SizeRow). ((s.docid, s.column), s.n)) sizes

-- all cells of the documents that go
abbrev pub goes : Rewrite → Bool
goes r = is_some r.before && not (is_some r.after)

abbrev pub dropped_documents : ℤ → List Rewrite → List Change
dropped_documents tab rewrites = map (λ (r : Rewrite). DropCells tab r.docid) (filter goes rewrites)

-- the cells of a document that are new or differ
abbrev pub put_cells : ℤ → ℤ → List Cell → List Cell → List Change
put_cells tab docid before after = map (λ (c : ℤ × Cell). PutCell tab docid c.0 c.1) (changed int_cmp same_cell (numbered_cells before) (numbered_cells after))

abbrev pub put_documents : ℤ → List Rewrite → List Change
put_documents tab rewrites = flat_map (λ (r : Rewrite). put_cells tab r.docid (unwrap_or r.before []) (unwrap_or r.after [])) rewrites

-- the lists that are gone or differ and the sizes that are gone, and what is new or differs
abbrev pub dropped_lists : ℤ → List (Key × List Spot) → List Change
dropped_lists tab lists = map (λ (l : Key × List Spot). DropEntries tab l.0.0 l.0.1) lists

abbrev pub put_lists : ℤ → List (Key × List Spot) → List Change
put_lists tab lists = map (λ (l : Key × List Spot). PutEntries tab l.0.0 l.0.1 l.1) lists

abbrev pub dropped_sizes : ℤ → List ((ℤ × ℤ) × ℤ) → List Change
dropped_sizes tab sizes = map (λ (s : (ℤ × ℤ) × ℤ). DropSize tab s.0.0 s.0.1) sizes

abbrev pub put_sizes : ℤ → List ((ℤ × ℤ) × ℤ) → List Change
put_sizes tab sizes = map (λ (s : (ℤ × ℤ) × ℤ). PutSize tab s.0.0 s.0.1 s.1) sizes

-- Numbers are of 64 bits, so their texts are short. It is said of the cells that are indexed.
abbrev pub IsShortNumber : Cell → Type 0
IsShortNumber Null = Unit {0}
IsShortNumber (Int n) = length (signed_decimal n) ≤ 40
IsShortNumber (Text t) = Unit {0}

abbrev pub AreShortNumbers : List Column → List Cell → Type 0
AreShortNumbers [] cells = Unit {0}
AreShortNumbers (column ∷ columns) [] = Unit {0}
AreShortNumbers (column ∷ columns) (cell ∷ cells) = (column.indexed ≡ true → IsShortNumber cell) × AreShortNumbers columns cells

-- Lists with spots that join them one after another, each at the end of the list under its key, and rows that are put one after another.
abbrev pub with_spots : List (Key × Spot) → List (Key × List Spot) → List (Key × List Spot)
with_spots [] lists = lists
with_spots (s ∷ ss) lists = with_spots ss (put key_cmp s.0 (unwrap_or (find key_cmp s.0 lists) [] ++ s.1 ∷ []) lists)

abbrev pub entry_spot : Entry → Key × Spot
entry_spot e = (key_of e, e.spot)

abbrev pub with_entries : List Entry → List (Key × List Spot) → List (Key × List Spot)
with_entries es lists = with_spots (map entry_spot es) lists

abbrev pub all_put : {K V : Type 0} → (K → K → Ordering) → List (K × V) → List (K × V) → List (K × V)
all_put R [] rows = rows
all_put R (e ∷ es) rows = all_put R es (put R e.0 e.1 rows)

-- the entries of a cell, and its size if it has tokens
abbrev pub cell_entries : ℤ → ℕ → List PlainToken → List Entry
cell_entries docid column tokens = map (λ (t : PlainToken). entry_at docid (posting column t)) tokens

abbrev pub cell_sizes : ℤ → ℕ → ℕ → List SizeRow
cell_sizes docid column zero = []
cell_sizes docid column (suc n) = record { docid = docid; column = pos column; n = pos (suc n) } ∷ []

-- lists and sizes that those of documents join
abbrev pub lists_joined_by : List Column → Documents → List (Key × List Spot) → List (Key × List Spot)
lists_joined_by columns documents lists = with_entries (flat_map (document_entries columns) documents) lists

abbrev pub sizes_with : List Column → Documents → List ((ℤ × ℤ) × ℤ) → List ((ℤ × ℤ) × ℤ)
sizes_with columns documents sizes = all_put column_key_cmp (sized (flat_map (document_sizes columns) documents)) sizes

-- the lists and sizes of documents under their keys
abbrev pub index_lists_of : List Column → Documents → List (Key × List Spot)
index_lists_of columns documents = (index_rows (content_with columns documents)).lists

abbrev pub sizes_of : List Column → Documents → List ((ℤ × ℤ) × ℤ)
sizes_of columns documents = all_put column_key_cmp (sized (index_rows (content_with columns documents)).sizes) []

-- The row changes from one index to another: kind by kind, each by rising keys. A list that differs is dropped first, so that no list is
-- put under a key that is there.
abbrev pub list_changes : ℤ → List (Key × List Spot) → List (Key × List Spot) → List Change
list_changes tab old new = dropped_lists tab (changed key_cmp same_spots new old) ++ put_lists tab (changed key_cmp same_spots old new)

abbrev pub size_changes : ℤ → List ((ℤ × ℤ) × ℤ) → List ((ℤ × ℤ) × ℤ) → List Change
size_changes tab old new = dropped_sizes tab (gone column_key_cmp old new) ++ put_sizes tab (changed column_key_cmp int_eq old new)

-- The row changes of rewrites.
unfoldable pub rewrite_changes : ℤ → List Column → List Rewrite → List Change
rewrite_changes tab columns rewrites =
    dropped_documents tab rewrites ++ (put_documents tab rewrites
    ++ (list_changes tab (index_lists_of columns (befores rewrites)) (index_lists_of columns (afters rewrites))
    ++ size_changes tab (sizes_of columns (befores rewrites)) (sizes_of columns (afters rewrites))))
