-- Meaning. The index of a content: its entries, the rows that hold them, and the sizes of its cells. Its rows are an own choice; the
-- document's own are those of "Data Structures".
use Rattle.std.specs.Prelude.{if◌then◌else◌, ℕ, List, [], ◌∷◌, map, length, filter, ℤ, pos, nat_lt, unwrap_or}
use Rattle.std.specs.List.{flat_map, enumerate_from}
use Rattle.std.specs.declared.cmp.Ordering.{Ordering}
use Rattle.std.specs.Ordering.{nat_cmp, int_cmp, ordering_then}
use Rattle.std.specs.Cmp.Lexicographic.{slice_cmp}
use Rattle.std.specs.FinMap.Entries.{put, find}
pub use Rattle.ft_values.specs.declared.rows.Spot.{Spot}
use Rattle.ft_match.specs.Tokens.{PlainToken, tokens_of}
use Rattle.ft_match.specs.Documents.{Posting, postings_of}
use Rattle.ft_content.specs.Content.{Cell, Column, Content, cell_text}

-- the text of a cell that is indexed: none in a column that is not indexed ("The notindexed= option")
abbrev pub indexed_text : Column → Cell → List ℕ
indexed_text column cell = if column.indexed then cell_text cell else []

abbrev pub cell_tokens : Column → Cell → List PlainToken
cell_tokens column cell = tokens_of (indexed_text column cell)

-- the tokens of each column of a document ("Tokenizers")
abbrev pub document_tokens : List Column → List Cell → List (List PlainToken)
document_tokens (column ∷ columns) (cell ∷ cells) = cell_tokens column cell ∷ document_tokens columns cells
document_tokens columns cells = []

-- the tokens of a document under their terms
abbrev pub document_postings : List Column → List Cell → List Posting
document_postings columns cells = postings_of (document_tokens columns cells)

-- a term at a spot of a document
pub record Entry : Type 0 where
  pub term : List ℕ
  pub docid : ℤ
  pub spot : Spot

abbrev pub entry_at : ℤ → Posting → Entry
entry_at docid p = record {
  term = p.term;
  docid = docid;
  spot = record { column = p.place.column; pos = p.place.pos; place = p.place.start; size = p.place.size };
}

-- one entry for each token of a document
abbrev pub document_entries : List Column → ℤ × List Cell → List Entry
document_entries columns document = map (entry_at document.0) (document_postings columns document.1)

-- one entry for each token of a content
unfoldable pub entries : Content → List Entry
entries content = flat_map (document_entries content.columns) content.documents

-- a term with a document that has it. Terms are ordered by their bytes
abbrev pub Key : Type 0
Key = List ℕ × ℤ

abbrev pub key_cmp : Key → Key → Ordering
key_cmp a b = ordering_then (slice_cmp nat_cmp a.0 b.0) (int_cmp a.1 b.1)

-- the spots of each key, by rising keys
abbrev pub SpotLists : Type 0
SpotLists = List (Key × List Spot)

-- the spots of a key, none where it has no list
abbrev pub spots_at : SpotLists → Key → List Spot
spots_at lists key = unwrap_or (find key_cmp key lists) []

abbrev pub key_of : Entry → Key
key_of e = (e.term, e.docid)

-- the spots of entries under their keys
unfoldable pub spot_lists : List Entry → SpotLists
spot_lists [] = []
spot_lists (e ∷ es) = put key_cmp (key_of e) (e.spot ∷ spots_at (spot_lists es) (key_of e)) (spot_lists es)

-- how many tokens a cell has
pub record SizeRow : Type 0 where
  pub docid : ℤ
  pub column : ℤ
  pub n : ℤ

abbrev pub size_row : ℤ → ℕ × List PlainToken → SizeRow
size_row docid column = record { docid = docid; column = pos column.0; n = pos (length column.1) }

-- a size for each column of a document that has tokens
abbrev pub document_sizes : List Column → ℤ × List Cell → List SizeRow
document_sizes columns document = map (size_row document.0)
    (filter (λ (column : ℕ × List PlainToken). nat_lt 0 (length column.1)) (enumerate_from 0 (document_tokens columns document.1)))

-- by rising docid and then column
unfoldable pub sizes : Content → List SizeRow
sizes content = flat_map (document_sizes content.columns) content.documents

-- A table's index rows: under each key its spots, and the sizes.
pub record IndexRows : Type 0 where
  pub lists : List (Key × List Spot)
  pub sizes : List SizeRow

-- the index rows made from scratch out of a content
unfoldable pub index_rows : Content → IndexRows
index_rows content = record { lists = spot_lists (entries content); sizes = sizes content }

-- a row for each spot, as the store reads them
pub record EntryRow : Type 0 where
  pub term : List ℕ
  pub docid : ℤ
  pub spot : Spot

abbrev pub entry_rows : List (Key × List Spot) → List EntryRow
entry_rows lists = flat_map (λ (l : Key × List Spot). map (λ (s : Spot). record { term = l.0.0; docid = l.0.1; spot = s }) l.1) lists
