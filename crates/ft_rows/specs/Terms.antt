-- Steps. Postings by their terms, as rows under their keys. All of it is our own choice.
use Rattle.std.specs.Prelude.{◌≡◌, ◌<◌, ◌≤◌, ℕ, ℤ, if◌then◌else◌, List, [], ◌∷◌, map, length, take, drop, string_bytes}
use Rattle.std.specs.List.{flat_map}
use Rattle.std.specs.Ordering.{int_eq}
use Rattle.ft_values.specs.declared.rows.Spot.{Spot}
use Rattle.ft_rows.specs.declared.terms.Posting.{Posting}
use Rattle.ft_rows.specs.declared.terms.TermLists.{TermLists}
use Rattle.ft_rows.specs.Store.{ListKey}

abbrev pub spot_of : Posting → Spot
spot_of p = p.spot

-- a posting before lists: it joins the first, if that is of its document
abbrev pub joined_posting : Posting → List (ℤ × List Spot) → List (ℤ × List Spot)
joined_posting p [] = (p.docid, p.spot ∷ []) ∷ []
joined_posting p (l ∷ ls) = if int_eq p.docid l.0 then (p.docid, p.spot ∷ l.1) ∷ ls else (p.docid, p.spot ∷ []) ∷ l ∷ ls

-- postings of one document that stand beside each other are a list
abbrev pub lists_of_postings : List Posting → List (ℤ × List Spot)
lists_of_postings [] = []
lists_of_postings (p ∷ ps) = joined_posting p (lists_of_postings ps)

-- so many postings are the first list
abbrev pub AreFirstList : List Posting → ℕ → Type 0
AreFirstList [] n = n ≡ 0
AreFirstList (p ∷ ps) n =
    (0 < n) × (n ≤ length (p ∷ ps)) × (lists_of_postings (p ∷ ps) ≡ (p.docid, map spot_of (take n (p ∷ ps))) ∷ lists_of_postings (drop n (p ∷ ps)))

-- these are the docid of the first list of postings, its postings, and those behind them
pub record IsSplit (postings : List Posting) (docid : ℤ) (list rest : List Posting) : Type 0 where
  pub lists : lists_of_postings postings ≡ (docid, map spot_of list) ∷ lists_of_postings rest
  pub shorter : length rest < length postings

-- the lists of one term in a table, and those of terms one after another
abbrev pub lists_under : ℤ → TermLists → List (ListKey × List Spot)
lists_under tab t = map (λ (l : ℤ × List Spot). ((tab, string_bytes t.term, l.0), l.1)) (lists_of_postings t.postings.items)

abbrev pub lists_by_terms : ℤ → List TermLists → List (ListKey × List Spot)
lists_by_terms tab terms = flat_map (lists_under tab) terms
