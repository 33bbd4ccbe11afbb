-- The computed choices of a chain are its choices.
use Rattle.std.proofs.Common.{◌≡◌, Bool, true, false, cond, List, [], ◌∷◌, length, map, refl, sym, subst, arith, ⊎_elim, ◌↔◌, Contains, filter, flat_map}
use Rattle.ft_match.proofs.Common.{Contains-append_left, Contains-append_right, Contains-append_cases, Place, Posting, PlainPhrase, PlainLink, occurrences, begins_near, IsChoice, choices, nat_tests, common_steps}
use Rattle.ft_match.proofs.OffsetOrder.{contains_cases, contains_head, contains_tail}

-- ---- where the elements of lists come from

pub contains_nothing : {X : Type 0} (z : X) → Contains [] z → ⊥
contains_nothing z c = omega (arith, c.1)

contains_here : {X : Type 0} (x z : X) (xs : List X) → x ≡ z → Contains (x ∷ xs) z
contains_here x z xs same = subst (Contains (x ∷ xs)) same (contains_head x xs)

pub map_from : {X Y : Type 0} (f : X → Y) (xs : List X) (y : Y) → Contains (map f xs) y → (x : X) × Contains xs x × (f x ≡ y)
map_from f [] y c = absurd (contains_nothing y c)
map_from f (x ∷ xs) y c = grind (arith, nat_tests, contains_head x xs, map_from f xs y, contains_tail x, contains_cases (f x) y)

pub map_to : {X Y : Type 0} (f : X → Y) (xs : List X) (x : X) → Contains xs x → Contains (map f xs) (f x)
map_to f [] x c = absurd (contains_nothing x c)
map_to f (z ∷ xs) x c = ⊎_elim
    (λ (here : z ≡ x). subst (λ u. Contains (map f (z ∷ xs)) (f u)) here (contains_head (f z) (map f xs)))
    (λ (later : Contains xs x). contains_tail (f z) (f x) (map f xs) (map_to f xs x later))
    (contains_cases z x xs c)

pub flat_from : {X Y : Type 0} (f : X → List Y) (xs : List X) (y : Y) → Contains (flat_map f xs) y → (x : X) × Contains xs x × Contains (f x) y
flat_from f [] y c = absurd (contains_nothing y c)
flat_from f (x ∷ xs) y c = ⊎_elim
    (λ (here : Contains (f x) y). (x, contains_head x xs, here))
    (λ (later : Contains (flat_map f xs) y). let rest = flat_from f xs y later in (rest.0, contains_tail x rest.0 xs rest.1, rest.2))
    (Contains-append_cases (f x) (flat_map f xs) y c)

pub flat_to : {X Y : Type 0} (f : X → List Y) (xs : List X) (x : X) (y : Y) → Contains xs x → Contains (f x) y → Contains (flat_map f xs) y
flat_to f [] x y c d = absurd (contains_nothing x c)
flat_to f (z ∷ xs) x y c d = ⊎_elim
    (λ (here : z ≡ x). Contains-append_left (f z) (flat_map f xs) y (subst (λ u. Contains (f u) y) (sym here) d))
    (λ (later : Contains xs x). Contains-append_right (f z) (flat_map f xs) y (flat_to f xs x y later d))
    (contains_cases z x xs c)

module _ {X : Type 0} (p : X → Bool) where
  filter_one : (x : X) (xs : List X) (z : X) (b : Bool) → p x ≡ b → Contains (cond b (x ∷ filter p xs) (filter p xs)) z
      → (Contains (filter p xs) z → Contains xs z × (p z ≡ true)) → Contains (x ∷ xs) z × (p z ≡ true)
  filter_one x xs z false passes c rest = let more = rest c in (contains_tail x z xs more.0, more.1)
  filter_one x xs z true passes c rest = grind (arith, nat_tests, contains_here x z xs, contains_tail x z xs, contains_cases x z)

  pub filter_from : (xs : List X) (z : X) → Contains (filter p xs) z → Contains xs z × (p z ≡ true)
  filter_from [] z c = absurd (contains_nothing z c)
  filter_from (x ∷ xs) z c = filter_one x xs z (p x) refl c (filter_from xs z)

  pub filter_to : (xs : List X) (z : X) → Contains xs z → p z ≡ true → Contains (filter p xs) z
  filter_to [] z c passes = absurd (contains_nothing z c)
  filter_to (x ∷ xs) z c passes = ⊎_elim
      (λ (here : x ≡ z). subst (λ b. Contains (cond b (x ∷ filter p xs) (filter p xs)) z) (sym (subst (λ u. p u ≡ true) (sym here) passes))
      (contains_here x z (filter p xs) here))
      (λ (later : Contains xs z). elim (p x) as (λ b. Contains (cond b (x ∷ filter p xs) (filter p xs)) z) [
        | true ↦ contains_tail x z (filter p xs) (filter_to xs z later passes)
        | false ↦ filter_to xs z later passes
      ])
      (contains_cases x z xs c)

-- ---- choices

abbrev next_is_near : PlainPhrase → PlainLink → Place → List Place → Bool
next_is_near p link at = begins_near link.most (length p.terms) at (length link.to.terms)

abbrev with_place : Place → List Place → List Place
with_place at choice = at ∷ choice

abbrev from_place : List Posting → PlainPhrase → PlainLink → List PlainLink → Place → List (List Place)
from_place postings p link links at = map (with_place at) (filter (next_is_near p link at) (choices postings link.to links))

computed_are : (postings : List Posting) (p : PlainPhrase) (links : List PlainLink) (choice : List Place) → Contains (choices postings p links) choice
    → IsChoice postings p links choice
computed_are postings p [] choice c =
    let one = map_from (λ (at : Place). at ∷ []) (occurrences postings p) choice c in
    subst (IsChoice postings p []) one.2 (one.1, refl)
computed_are postings p (link ∷ links) choice c =
    let first = flat_from (from_place postings p link links) (occurrences postings p) choice c in
    let rest = map_from (with_place first.0) (filter (next_is_near p link first.0) (choices postings link.to links)) choice first.2 in
    let near = filter_from (next_is_near p link first.0) (choices postings link.to links) rest.0 rest.1 in
    subst (IsChoice postings p (link ∷ links)) rest.2 (first.1, near.1, computed_are postings link.to links rest.0 near.0)

are_computed : (postings : List Posting) (p : PlainPhrase) (links : List PlainLink) (choice : List Place) → IsChoice postings p links choice
    → Contains (choices postings p links) choice
are_computed postings p links [] is = absurd is
are_computed postings p [] (at ∷ rest) is = grind (arith, common_steps, map_to)
are_computed postings p (link ∷ links) (at ∷ rest) is =
    flat_to (from_place postings p link links) (occurrences postings p) at (at ∷ rest) is.0
    (map_to (with_place at) (filter (next_is_near p link at) (choices postings link.to links)) rest
    (filter_to (next_is_near p link at) (choices postings link.to links) rest (are_computed postings link.to links rest is.2) is.1))

pub chosen : (postings : List Posting) (p : PlainPhrase) (links : List PlainLink) (choice : List Place)
    → Contains (choices postings p links) choice ↔ IsChoice postings p links choice
chosen postings p links choice = (computed_are postings p links choice, are_computed postings p links choice)
