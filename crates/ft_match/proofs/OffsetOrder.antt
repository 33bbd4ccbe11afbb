-- The offsets of a document rise, and rising lists with the same members are one list.
use Rattle.std.proofs.Common.{◌≡◌, ℕ, zero, suc, ◌+◌, ◌<◌, ◌≤◌, true, false, cond, List, [], ◌∷◌, ◌⊎◌, inl, inr, length, get_or, refl, sym, ap, ◌∙◌, arith, All, AllPairs, Contains, Some, None, flat_map, filter_map}
use Rattle.ft_match.proofs.Common.{AllByRecursion, list_any, enumerate_from, cons_option, All-nil, All-append, All-from_recursion, recursion_from_All, All-contains, AllPairs-cons, Place, Offset, Tree, Posting, IsBefore, is_at, offsets_at, offsets_of, taken, places_of, nat_tests}
use Rattle.ft_match.proofs.TokenOnce.{pairs_head, pairs_tail}
use Rattle.ft_match.proofs.Bridge.{pairs_append}

-- by column, then place, then term number
abbrev pub Rises : Offset → Offset → Type 0
Rises a b = (a.column < b.column) ⊎ (((a.column ≡ b.column) × (a.place < b.place)) ⊎ ((a.column ≡ b.column) × (a.place ≡ b.place) × (a.term < b.term)))

-- the offsets at one place, from term number n on
abbrev AtFrom : Place → ℕ → Offset → Type 0
AtFrom at n o = (o.column ≡ at.column) × (o.place ≡ at.start) × (n ≤ o.term)

abbrev from_term : ℕ → List (List Place) → Place → List Offset
from_term n terms at =
    filter_map (λ t. cond (list_any (is_at at) t.1) (Some (record { column = at.column; term = t.0; place = at.start; size = at.size })) None)
    (enumerate_from n terms)

at_more : (n : ℕ) (at : Place) (os : List Offset) → AllByRecursion (AtFrom at (n + 1)) os → AllByRecursion (AtFrom at n) os
at_more n at [] all = tt
at_more n at (o ∷ os) all = ((all.0.0, all.0.1, omega (arith, all.0.2)), at_more n at os all.1)

at_from : (n : ℕ) (terms : List (List Place)) (at : Place) → AllByRecursion (AtFrom at n) (from_term n terms at)
at_from n [] at = tt
at_from n (t ∷ ts) at = grind (arith, nat_tests, at_more n at (from_term (n + 1) ts at) (at_from (n + 1) ts at))

-- a term before the others at one place
first_rises : (n : ℕ) (at : Place) (o : Offset) (os : List Offset) → o.column ≡ at.column → o.place ≡ at.start → o.term ≡ n
    → AllByRecursion (AtFrom at (n + 1)) os → AllByRecursion (Rises o) os
first_rises n at o [] column place term all = tt
first_rises n at o (u ∷ us) column place term all = grind (arith, first_rises n at o us column place term all.1)

one_place_rises : (n : ℕ) (terms : List (List Place)) (at : Place) → AllPairs Rises (from_term n terms at)
one_place_rises n [] at = λ i j d before inside. absurd (omega arith)
one_place_rises n (t ∷ ts) at =
    let rest = one_place_rises (n + 1) ts at in
    elim (list_any (is_at at) t) as (λ v. AllPairs Rises (cons_option
    (cond v (Some (record { column = at.column; term = n; place = at.start; size = at.size })) None) (from_term (n + 1) ts at))) [
      | true ↦ AllPairs-cons Rises (record { column = at.column; term = n; place = at.start; size = at.size }) (from_term (n + 1) ts at)
          (All-from_recursion (Rises (record { column = at.column; term = n; place = at.start; size = at.size })) (from_term (n + 1) ts at)
          (first_rises n at (record { column = at.column; term = n; place = at.start; size = at.size }) (from_term (n + 1) ts at) refl refl refl
          (at_from (n + 1) ts at)))
          rest
      | false ↦ rest
    ]

-- the offsets at a later posting come later
later_place : (p q : Posting) (o : Offset) (os : List Offset) → AtFrom p.place 0 o → IsBefore p q → AllByRecursion (AtFrom q.place 0) os
    → AllByRecursion (Rises o) os
later_place p q o [] here before all = tt
later_place p q o (u ∷ us) here before all = grind (arith, later_place p q o us here before all.1)

later_places : (terms : List (List Place)) (p : Posting) (o : Offset) (ps : List Posting) → AtFrom p.place 0 o → AllByRecursion (IsBefore p) ps
    → All (Rises o) (flat_map (offsets_at terms) (places_of ps))
later_places terms p o [] here after = All-nil (Rises o)
later_places terms p o (q ∷ qs) here after = All-append (Rises o) (offsets_at terms q.place) (flat_map (offsets_at terms) (places_of qs))
    (All-from_recursion (Rises o) (offsets_at terms q.place) (later_place p q o (offsets_at terms q.place) here after.0 (at_from 0 terms q.place)))
    (later_places terms p o qs here after.1)

each_before : (terms : List (List Place)) (p : Posting) (ps : List Posting) (os : List Offset) → AllByRecursion (AtFrom p.place 0) os
    → AllByRecursion (IsBefore p) ps → AllByRecursion (λ o. All (Rises o) (flat_map (offsets_at terms) (places_of ps))) os
each_before terms p ps [] here after = tt
each_before terms p ps (o ∷ os) here after = (later_places terms p o ps here.0 after, each_before terms p ps os here.1 after)

all_rise : (terms : List (List Place)) (ps : List Posting) → AllPairs IsBefore ps → AllPairs Rises (flat_map (offsets_at terms) (places_of ps))
all_rise terms [] ordered = λ i j d before inside. absurd (omega arith)
all_rise terms (p ∷ ps) ordered = pairs_append Rises (offsets_at terms p.place) (flat_map (offsets_at terms) (places_of ps))
    (one_place_rises 0 terms p.place)
    (all_rise terms ps (pairs_tail IsBefore p ps ordered))
    (each_before terms p ps (offsets_at terms p.place) (at_from 0 terms p.place) (recursion_from_All (IsBefore p) ps (pairs_head IsBefore p ps ordered)))

-- the offsets rise by column, place and term number
pub offsets_rise : (postings : List Posting) (tree : Tree) → AllPairs IsBefore postings → AllPairs Rises (offsets_of postings tree)
offsets_rise postings tree ordered = all_rise (taken postings tree) postings ordered

-- ---- rising lists with the same members

contains_at : {X : Type 0} (x z : X) (xs : List X) (k : ℕ) → k < length (x ∷ xs) → get_or (x ∷ xs) k z ≡ z → (x ≡ z) ⊎ Contains xs z
contains_at x z xs zero inside e = inl e
contains_at x z xs (suc k) inside e = inr (k, omega arith, e)

pub contains_cases : {X : Type 0} (x z : X) (xs : List X) → Contains (x ∷ xs) z → (x ≡ z) ⊎ Contains xs z
contains_cases x z xs c = contains_at x z xs c.0 c.1 c.2

pub contains_head : {X : Type 0} (x : X) (xs : List X) → Contains (x ∷ xs) x
contains_head x xs = (zero, omega arith, refl)

pub contains_tail : {X : Type 0} (x z : X) (xs : List X) → Contains xs z → Contains (x ∷ xs) z
contains_tail x z xs c = (suc c.0, let h = c.1 in omega arith, c.2)

module _ {X : Type 0} (R : X → X → Type 0) (not_itself : (x : X) → R x x → ⊥) (one_way : (x y : X) → R x y → R y x → ⊥) where
  same_first : (x y : X) (xs ys : List X) → All (R x) xs → All (R y) ys → Contains (y ∷ ys) x → Contains (x ∷ xs) y → x ≡ y
  same_first x y xs ys first second there here = grind arith

  -- a later element of one list is a later one of the other
  later_too : (x y : X) (xs ys : List X) → x ≡ y → All (R x) xs → ((z : X) → Contains (x ∷ xs) z → Contains (y ∷ ys) z) → (z : X) → Contains xs z
      → Contains ys z
  later_too x y xs ys same first members z c =
      grind (arith, nat_tests, All-contains (R x) xs z first c, contains_cases y z ys (members z (contains_tail x z xs c)))

  pub same_rising : (xs ys : List X) → AllPairs R xs → AllPairs R ys → ((z : X) → Contains xs z → Contains ys z) → ((z : X) → Contains ys z → Contains xs z)
      → xs ≡ ys
  same_rising [] [] first second to from = refl
  same_rising [] (y ∷ ys) first second to from = let h = (from y (contains_head y ys)).1 in absurd (omega arith)
  same_rising (x ∷ xs) [] first second to from = let h = (to x (contains_head x xs)).1 in absurd (omega arith)
  same_rising (x ∷ xs) (y ∷ ys) first second to from =
      let one = pairs_head R x xs first in
      let other = pairs_head R y ys second in
      let same = same_first x y xs ys one other (to x (contains_head x xs)) (from y (contains_head y ys)) in
      let rest =
      same_rising xs ys (pairs_tail R x xs first) (pairs_tail R y ys second) (later_too x y xs ys same one to) (later_too y x ys xs (sym same) other from) in
      ap (λ z. z ∷ xs) same ∙ ap (λ zs. y ∷ zs) rest

not_before_itself : (o : Offset) → Rises o o → ⊥
not_before_itself o rises = grind arith

-- what is before isn't after
not_both : (a b : Offset) → Rises a b → Rises b a → ⊥
not_both a b before after = grind arith

-- The offsets of a document are the only list with their members that rises.
pub only_offsets : (postings : List Posting) (tree : Tree) (out : List Offset) → AllPairs IsBefore postings → AllPairs Rises out →
    ((o : Offset) → Contains out o → Contains (offsets_of postings tree) o) → ((o : Offset) → Contains (offsets_of postings tree) o → Contains out o) → out
    ≡ offsets_of postings tree
only_offsets postings tree out ordered rises to from =
    same_rising Rises not_before_itself not_both out (offsets_of postings tree) rises (offsets_rise postings tree ordered) to from
