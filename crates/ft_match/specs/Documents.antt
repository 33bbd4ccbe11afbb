-- Meaning. What an index means: documents, each with its postings.
use Rattle.std.specs.Prelude.{◌≡◌, ◌≢◌, ℕ, ◌<◌, ℤ, ◌<ℤ◌, ◌⊎◌, Bool, true, false, List, [], ◌∷◌, map, filter, flat_map, All, AllPairs, length, sum_by}
use Rattle.std.specs.List.{enumerate_from}
use Rattle.ft_match.specs.Tokens.{PlainToken}

abbrev pub is_filled : {X : Type 0} → List X → Bool
is_filled [] = false
is_filled (x ∷ xs) = true

-- where a token stands: its column, its number in the cell, and its place and size in bytes
pub record Place : Type 0 where
  pub column : ℕ
  pub pos : ℕ
  pub start : ℕ
  pub size : ℕ

-- a token of a document under its term
pub record Posting : Type 0 where
  pub term : List ℕ
  pub place : Place

pub record Document : Type 0 where
  pub docid : ℤ
  pub postings : List Posting

abbrev pub posting : ℕ → PlainToken → Posting
posting column t = record { term = t.term; place = record { column = column; pos = t.pos; start = t.start; size = t.size } }

-- The postings of a document whose columns have these tokens, by column and then by position. A column that isn't indexed has no tokens.
abbrev pub postings_of : List (List PlainToken) → List Posting
postings_of columns = flat_map (λ c. map (posting c.0) c.1) (enumerate_from 0 columns)

-- The documents of these docids, each with the tokens of its columns. One without tokens isn't there: no query accepts it (own choice).
abbrev pub documents_of : List (ℤ × List (List PlainToken)) → List Document
documents_of rows = filter (λ d. is_filled d.postings) (map (λ row. record { docid = row.0; postings = postings_of row.1 }) rows)

-- an earlier column, or an earlier position and place of one column
abbrev pub IsBefore : Posting → Posting → Type 0
IsBefore a b = (a.place.column < b.place.column) ⊎ ((a.place.column ≡ b.place.column) × (a.place.pos < b.place.pos) × (a.place.start < b.place.start))

-- Documents by rising docid, none without postings, each with its postings in order: so docid, column and position name one posting, and
-- places rise with positions (own choice).
pub record AreDocuments (documents : List Document) : Type 0 where
  pub rising : AllPairs (λ a b. a.docid <ℤ b.docid) documents
  pub filled : All (λ d. d.postings ≢ []) documents
  pub ordered : All (λ d. AllPairs IsBefore d.postings) documents

-- the places of some terms in one document
pub record PlaceList : Type 0 where
  pub docid : ℤ
  pub places : List Place

abbrev pub has_places : PlaceList → Bool
has_places l = is_filled l.places

-- the places at which the document has a term that passes the test
abbrev pub places_with : (List ℕ → Bool) → Document → PlaceList
places_with test d = record { docid = d.docid; places = map (λ p. p.place) (filter (λ p. test p.term) d.postings) }

-- the places of each document that has such a term
abbrev pub lists_with : (List ℕ → Bool) → List Document → List PlaceList
lists_with test documents = filter has_places (map (places_with test) documents)

abbrev pub place_count : List PlaceList → ℕ
place_count lists = sum_by (λ l. length l.places) lists
