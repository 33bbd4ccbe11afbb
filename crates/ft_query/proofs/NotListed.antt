-- A query accepts no document that has none of its terms.
use Rattle.std.proofs.Common.{◌≡◌, ℕ, ◌&&◌, ◌||◌, Bool, true, false, not, cond, List, [], ◌∷◌, map, refl, sym, ap, ◌∙◌, filter, arith}
use Rattle.std.proofs.Math.Bool.{and-false}
use Rattle.ft_query.proofs.Common.{or_parts, list_any, list_any-append, Place, Posting, is_filled, PlainTerm, PlainPhrase, PlainLink, Tree, phrase, chain, both, either, without, is_listed, takes, take_row, is_within, places_of, occurs, occurrences, choices, accepts, terms_in}

-- the document has a posting under the term
abbrev pub has_term : List Posting → PlainTerm → Bool
has_term postings t = list_any (λ p. is_listed t p.term) postings

filter_none : {X : Type 0} (q : X → Bool) (xs : List X) → ((x : X) → q x ≡ false) → filter q xs ≡ []
filter_none q [] none = refl
filter_none q (x ∷ xs) none = ap (λ b. cond b (x ∷ filter q xs) (filter q xs)) (none x) ∙ filter_none q xs none

none_taken : (postings : List Posting) (t : PlainTerm) (column pos : ℕ) → has_term postings t ≡ false → takes postings t column pos ≡ false
none_taken [] t column pos none = refl
none_taken (p ∷ ps) t column pos none = grind (arith, none_taken ps t column pos (or_parts (is_listed t p.term) (has_term ps t) none).1)

none_occurs : (postings : List Posting) (p : PlainPhrase) → list_any (has_term postings) p.terms ≡ false → (column pos : ℕ)
    → occurs postings p column pos ≡ false
none_occurs postings p none column pos = by p.terms none
  where
    by : (terms : List PlainTerm) → list_any (has_term postings) terms ≡ false
        → (is_within p.filter column && is_filled terms && take_row postings terms column pos) ≡ false
    by [] none = ap (λ b. b && true) (and-false (is_within p.filter column))
    by (t ∷ ts) none =
        simp (none_taken postings t column pos (or_parts (has_term postings t) (list_any (has_term postings) ts) none).0, and-false)

no_occurrence : (postings : List Posting) (p : PlainPhrase) → list_any (has_term postings) p.terms ≡ false → occurrences postings p ≡ []
no_occurrence postings p none = filter_none (λ at. occurs postings p at.column at.pos) (places_of postings) (λ at. none_occurs postings p none at.column at.pos)

no_choice : (postings : List Posting) (p : PlainPhrase) (links : List PlainLink) → occurrences postings p ≡ [] → choices postings p links ≡ []
no_choice postings p [] none = ap (map (λ (at : Place). at ∷ [])) none
no_choice postings p (link ∷ links) none = grind arith

pub accepts_none : (postings : List Posting) (tree : Tree) → list_any (has_term postings) (terms_in tree) ≡ false → accepts postings tree ≡ false
accepts_none postings (phrase p) none = ap is_filled (no_occurrence postings p none)
accepts_none postings (chain p links) none =
    let first = (or_parts (list_any (has_term postings) p.terms) _ (sym (list_any-append (has_term postings) p.terms _) ∙ none)).0 in
    ap is_filled (no_choice postings p links (no_occurrence postings p first))
accepts_none postings (both p q) none =
    let left = (or_parts (list_any (has_term postings) (terms_in p)) _ (sym (list_any-append (has_term postings) (terms_in p) (terms_in q)) ∙ none)).0 in
    ap (λ b. b && accepts postings q) (accepts_none postings p left)
accepts_none postings (either p q) none =
    let sides = sym (list_any-append (has_term postings) (terms_in p) (terms_in q)) ∙ none in
    let left = (or_parts (list_any (has_term postings) (terms_in p)) (list_any (has_term postings) (terms_in q)) sides).0 in
    let right = (or_parts (list_any (has_term postings) (terms_in p)) (list_any (has_term postings) (terms_in q)) sides).1 in
    ap (λ b. b || accepts postings q) (accepts_none postings p left) ∙ accepts_none postings q right
accepts_none postings (without p q) none =
    let left = (or_parts (list_any (has_term postings) (terms_in p)) _ (sym (list_any-append (has_term postings) (terms_in p) (terms_in q)) ∙ none)).0 in
    ap (λ b. b && not (accepts postings q)) (accepts_none postings p left)
