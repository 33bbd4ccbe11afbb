-- Steps. How far the lists that are expected are gone through, and how many places they have (own choice).
use Rattle.std.specs.Prelude.{◌≡◌, ℕ, ℤ, ◌<◌, List, [], ◌∷◌, ◌++◌, map, length, drop, sum_by, string_bytes}
use Rattle.sqlite.specs.Order.{Row}
use Rattle.ft_values.specs.declared.rows.Spot.{Spot}
use Rattle.ft_rows.specs.declared.terms.Posting.{Posting}
use Rattle.ft_rows.specs.declared.terms.TermLists.{TermLists}
use Rattle.ft_rows.specs.Store.{ListKey}
use Rattle.ft_rows.specs.Terms.{spot_of, lists_of_postings, lists_by_terms}
use Rattle.ft_store.specs.Found.{found_places}

-- the lists of a term, all but those of its first postings, as many as were found
abbrev pub left_under : ℤ → TermLists → ℕ → List (ListKey × List Spot)
left_under tab t n = map (λ (l : ℤ × List Spot). ((tab, string_bytes t.term, l.0), l.1)) (lists_of_postings (drop n t.postings.items))

-- of the first of these terms the lists after so many of its postings, and all of the later terms
abbrev pub left_of : ℤ → List TermLists → ℕ → List (ListKey × List Spot)
left_of tab [] n = []
left_of tab (t ∷ ts) n = left_under tab t n ++ lists_by_terms tab ts

-- the first of these terms has more postings than so many
abbrev pub HasMore : List TermLists → ℕ → Type 0
HasMore [] n = ⊥
HasMore (t ∷ ts) n = n < length t.postings.items

-- a row is the list of these postings of one document, which are of this term; no row is the list of none
abbrev pub IsList : ℤ → Row → List ℕ → List Posting → Type 0
IsList tab row term [] = ⊥
IsList tab row term (p ∷ ps) = found_places tab row ≡ ((tab, term, p.docid), map spot_of (p ∷ ps))

-- how many places the lists of terms have
abbrev pub posting_count : List TermLists → ℕ
posting_count terms = sum_by (λ t. length t.postings.items) terms
