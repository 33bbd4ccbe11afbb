-- Meaning. Where phrases occur in a document, which documents a query accepts, and the offsets. The sections named in quotes are of the
-- SQLite document "SQLite FTS3 and FTS4 Extensions".
use Rattle.std.specs.Prelude.{◌≡◌, ℕ, ℤ, ◌+◌, ◌-◌, ◌==◌, ◌&&◌, ◌||◌, Bool, true, false, not, nat_eq, nat_le, max, if◌then◌else◌, List, [], ◌∷◌, ◌++◌}
use Rattle.std.specs.Prelude.{length, drop, map, filter, filter_map, flat_map, slice_get, Contains, option_and_then, Option, Some, None, bytes_eq, decimal}
use Rattle.std.specs.Option.{option_map_or}
use Rattle.ft_match.specs.Tokens.{PlainToken}
use Rattle.std.specs.List.{list_any, starts_with, enumerate_from, join_with_byte}
use Rattle.ft_match.specs.declared.hit.Offset.{Offset}
use Rattle.ft_match.specs.declared.hit.Hit.{Hit}
use Rattle.ft_match.specs.Documents.{Place, Posting, Document, is_filled}
use Rattle.ft_match.specs.Trees.{PlainTerm, PlainPhrase, PlainLink, Tree, phrase, chain, both, either, without}

-- ---- occurrences

-- the term itself, or what begins with it where it is a prefix term ("Full-text Index Queries"): what a list of the index has
abbrev pub is_listed : PlainTerm → List ℕ → Bool
is_listed t term = if t.prefix then starts_with nat_eq term t.text else bytes_eq term t.text

-- a token with this term at this position fits; a first term takes position 0 alone ("Full-text Index Queries")
abbrev pub fits : PlainTerm → List ℕ → ℕ → Bool
fits t term pos = is_listed t term && (not t.first || pos == 0)

-- the token at this column and position fits the term
abbrev pub takes : List Posting → PlainTerm → ℕ → ℕ → Bool
takes postings t column pos = list_any (λ p. p.place.column == column && p.place.pos == pos && fits t p.term p.place.pos) postings

-- the same, said of the columns' tokens: the token of this number in this column fits
abbrev pub token_fits : List (List PlainToken) → PlainTerm → ℕ → ℕ → Bool
token_fits columns t column pos = option_map_or (λ token. fits t token.term token.pos)
    (option_and_then (λ tokens. slice_get tokens pos) (slice_get columns column)) false

-- the tokens of this column from this position on fit the terms, one after the other ("Full-text Index Queries")
abbrev pub take_row : List Posting → List PlainTerm → ℕ → ℕ → Bool
take_row postings [] column pos = true
take_row postings (t ∷ ts) column pos = takes postings t column pos && take_row postings ts column (pos + 1)

-- with no filter every column will do ("Full-text Index Queries")
abbrev pub is_within : Option ℕ → ℕ → Bool
is_within None column = true
is_within (Some filter) column = filter == column

-- The phrase occurs at this column and position: the column is within its filter, and it has terms, which the tokens from here on fit
-- ("Full-text Index Queries"). So a phrase without terms occurs nowhere (own choice).
abbrev pub occurs : List Posting → PlainPhrase → ℕ → ℕ → Bool
occurs postings p column pos = is_within p.filter column && is_filled p.terms && take_row postings p.terms column pos

abbrev pub places_of : List Posting → List Place
places_of postings = map (λ p. p.place) postings

-- the phrase's occurrences, each by the place of its first token
abbrev pub occurrences : List Posting → PlainPhrase → List Place
occurrences postings p = filter (λ at. occurs postings p at.column at.pos) (places_of postings)

-- Occurrences of phrases of k and m terms are near: they stand in one column and have at most so many tokens between them ("Full-text Index
-- Queries"). They don't end at the same token, and overlapping ones have none between (own choices; `-` stops at 0).
abbrev pub are_near : ℕ → ℕ → Place → ℕ → Place → Bool
are_near most k a m b = a.column == b.column && not (a.pos + k == b.pos + m) && nat_le (max (b.pos - (a.pos + k)) (a.pos - (b.pos + m))) most

-- this occurrence of a phrase of k terms is near the first one of the choice, whose phrase has m terms
abbrev pub begins_near : ℕ → ℕ → Place → ℕ → List Place → Bool
begins_near most k at m [] = false
begins_near most k at m (b ∷ choice) = are_near most k at m b

-- A choice of a chain: an occurrence for each phrase, each near the next one's by the number between the two ("Full-text Index Queries").
abbrev pub IsChoice : List Posting → PlainPhrase → List PlainLink → List Place → Type 0
IsChoice postings p links [] = ⊥
IsChoice postings p [] (at ∷ choice) = Contains (occurrences postings p) at × (choice ≡ [])
IsChoice postings p (link ∷ links) (at ∷ choice) =
    Contains (occurrences postings p) at
    × (begins_near link.most (length p.terms) at (length link.to.terms) choice ≡ true)
    × IsChoice postings link.to links choice

-- all choices of a chain, computed
abbrev pub choices : List Posting → PlainPhrase → List PlainLink → List (List Place)
choices postings p [] = map (λ at. at ∷ []) (occurrences postings p)
choices postings p (link ∷ links) = flat_map
    (λ at. map (λ choice. at ∷ choice) (filter (begins_near link.most (length p.terms) at (length link.to.terms)) (choices postings link.to links)))
    (occurrences postings p)

-- ---- which documents a query accepts

-- A phrase that occurs, a chain that has a choice; AND, OR and NOT are those of "Set Operations Using The Enhanced Query Syntax".
abbrev pub accepts : List Posting → Tree → Bool
accepts postings (phrase p) = is_filled (occurrences postings p)
accepts postings (chain p links) = is_filled (choices postings p links)
accepts postings (both p q) = accepts postings p && accepts postings q
accepts postings (either p q) = accepts postings p || accepts postings q
accepts postings (without p q) = accepts postings p && not (accepts postings q)

-- ---- offsets

-- the places that the term i places after these takes
abbrev pub shifted : List Posting → ℕ → List Place → List Place
shifted postings i starts = filter (λ at. list_any (λ start. start.column == at.column && start.pos + i == at.pos) starts) (places_of postings)

-- for each term of a phrase, from the term of index i on, the places that it takes in these occurrences
abbrev pub taken_in : List Posting → ℕ → List PlainTerm → List Place → List (List Place)
taken_in postings i [] starts = []
taken_in postings i (t ∷ ts) starts = shifted postings i starts ∷ taken_in postings (i + 1) ts starts

-- the first phrase's occurrences in the choices
abbrev pub heads : List (List Place) → List Place
heads [] = []
heads ([] ∷ choices) = heads choices
heads ((at ∷ choice) ∷ choices) = at ∷ heads choices

-- the same for each phrase of the links, whose occurrences the choices begin with
abbrev pub taken_links : List Posting → List (List Place) → List PlainLink → List (List Place)
taken_links postings choices [] = []
taken_links postings choices (link ∷ links) = taken_in postings 0 link.to.terms (heads choices) ++ taken_links postings (map (drop 1) choices) links

-- For each term, in the text's order, the places that it takes in the occurrences that count ("The Offsets Function"). Each occurrence of a
-- phrase does, whatever becomes of its side of an OR; in a chain those that stand in some choice; and terms right of a NOT aren't among
-- them (own choices).
abbrev pub taken : List Posting → Tree → List (List Place)
taken postings (phrase p) = taken_in postings 0 p.terms (occurrences postings p)
taken postings (chain p links) =
    taken_in postings 0 p.terms (heads (choices postings p links))
    ++ taken_links postings (map (drop 1) (choices postings p links)) links
taken postings (both p q) = taken postings p ++ taken postings q
taken postings (either p q) = taken postings p ++ taken postings q
taken postings (without p q) = taken postings p

abbrev pub is_at : Place → Place → Bool
is_at a b = a.column == b.column && a.pos == b.pos

-- an offset for each term that takes the token at this place, by rising number
abbrev pub offsets_at : List (List Place) → Place → List Offset
offsets_at terms at = filter_map
    (λ t. if list_any (is_at at) t.1 then Some (record { column = at.column; term = t.0; place = at.start; size = at.size }) else None)
    (enumerate_from 0 terms)

-- the offsets in a document, by rising column, place and term number (own choice)
abbrev pub offsets_of : List Posting → Tree → List Offset
offsets_of postings tree = flat_map (offsets_at (taken postings tree)) (places_of postings)

-- a hit without where it lies in memory
pub record PlainHit : Type 0 where
  pub docid : ℤ
  pub offsets : List Offset

abbrev pub plain_hit : Hit → PlainHit
plain_hit h = record { docid = h.docid; offsets = h.offsets.items }

-- the documents that the query accepts, in their order, each with its offsets
abbrev pub hits_of : Tree → List Document → List PlainHit
hits_of tree documents = map (λ d. record { docid = d.docid; offsets = offsets_of d.postings tree }) (filter (λ d. accepts d.postings tree) documents)

-- A text without lexemes finds nothing (own choice).
abbrev pub found_of : Option Tree → List Document → List PlainHit
found_of None documents = []
found_of (Some tree) documents = hits_of tree documents

-- column, term number, place and size ("The Offsets Function")
abbrev pub offset_numbers : Offset → List ℕ
offset_numbers o = o.column ∷ o.term ∷ o.place ∷ o.size ∷ []

-- all numbers, separated by single spaces ("The Offsets Function")
abbrev pub offsets_text : List Offset → List ℕ
offsets_text offsets = join_with_byte 32 (map decimal (flat_map offset_numbers offsets))
