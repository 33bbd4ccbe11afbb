-- A loop that changes each element of a list, one after the other.
use Rattle.std.proofs.Common.{◌≡◌, ℕ, ◌≤◌, List, [], ◌∷◌, refl, length, map, sym, ap, ◌∙◌, ◌+◌, ◌<◌, zero, suc, arith, slice_set, slice_index_or}
use Rattle.std.proofs.lemmas.Simd.{map-map}
use Rattle.ft_query.proofs.Common.{Cursor, PlaceList, lists_left, lists_kept, length-map, nat_tests}

-- the first i elements changed
abbrev pub swept : {B : Type 0} → (B → B) → ℕ → List B → List B
swept g zero bs = bs
swept g (suc i) [] = []
swept g (suc i) (b ∷ bs) = g b ∷ swept g i bs

-- all of them
all_swept : {B : Type 0} (g : B → B) (bs : List B) (i : ℕ) → length bs ≤ i → swept g i bs ≡ map g bs
all_swept g [] zero enough = refl
all_swept g [] (suc i) enough = refl
all_swept g (b ∷ bs) zero enough = absurd (omega arith)
all_swept g (b ∷ bs) (suc i) enough = ap (λ cs. g b ∷ cs) (all_swept g bs i (omega arith))

module _ {A B : Type 0} (f : A → B) (g : B → B) where
  head_of : (a : B) (cs : List B) (b : B) (bs : List B) → (a ∷ cs) ≡ (b ∷ bs) → a ≡ b
  head_of a cs b bs same = ap (λ (xs : List B). elim xs as (λ _. B) [ [] ↦ a | x ∷ _ ↦ x ]) same

  tail_of : (a : B) (cs : List B) (b : B) (bs : List B) → (a ∷ cs) ≡ (b ∷ bs) → cs ≡ bs
  tail_of a cs b bs same = ap (λ (xs : List B). elim xs as (λ _. List B) [ [] ↦ cs | _ ∷ ys ↦ ys ]) same

  sweep_on : (xs : List A) (bs : List B) (i : ℕ) (d y : A) → map f xs ≡ swept g i bs → i < length xs → f y ≡ g (f (slice_index_or xs i d))
      → map f (slice_set xs i y) ≡ swept g (suc i) bs
  sweep_on [] bs i d y so_far within next = absurd (omega arith)
  sweep_on (x ∷ xs) [] zero d y so_far within next = let h = ap length so_far in absurd (omega arith)
  sweep_on (x ∷ xs) [] (suc i) d y so_far within next = let h = ap length so_far in absurd (omega arith)
  sweep_on (x ∷ xs) (b ∷ bs) zero d y so_far within next = grind arith
  sweep_on (x ∷ xs) (b ∷ bs) (suc i) d y so_far within next =
      grind (arith, sweep_on xs bs i d y (tail_of (f x) (map f xs) (g b) (swept g i bs) so_far) (omega arith) next)

  -- one more
  pub sweep_next : (xs : List A) (bs : List B) (i : ℕ) (d y : A) → map f xs ≡ swept g i bs → i < length xs → f y ≡ g (f (slice_index_or xs i d))
      → map f (slice_set xs i y) ≡ swept g (i + 1) bs
  sweep_next xs bs i d y so_far within next = grind (arith, nat_tests, sweep_on xs bs i d y so_far within next)

  pub sweep_end : (xs ys : List A) (i : ℕ) → map f xs ≡ swept g i (map f ys) → length ys ≤ i → map f xs ≡ map g (map f ys)
  sweep_end xs ys i so_far enough = grind (arith, nat_tests, all_swept g (map f ys) i (rw length-map enough))

-- ---- where a walk and its search stand in the lists

-- what the search has still to pass, and what the walk has
abbrev pub both_lists : Cursor → List PlaceList × List PlaceList
both_lists c = (lists_left c, lists_kept c)

abbrev pub as_kept : List PlaceList × List PlaceList → List PlaceList × List PlaceList
as_kept p = (p.1, p.1)

abbrev pub as_left : List PlaceList × List PlaceList → List PlaceList × List PlaceList
as_left p = (p.0, p.0)

module _ (f g : List PlaceList × List PlaceList → List PlaceList) (h : List PlaceList × List PlaceList → List PlaceList × List PlaceList)
    (same : (p : List PlaceList × List PlaceList) → f (h p) ≡ g p) where
  each : (xs : List Cursor) → map (λ c. f (h (both_lists c))) xs ≡ map (λ c. g (both_lists c)) xs
  each [] = refl
  each (x ∷ xs) = ap (λ l. l ∷ map (λ c. f (h (both_lists c))) xs) (same (both_lists x)) ∙ ap (λ ls. g (both_lists x) ∷ ls) (each xs)

  -- of all cursors at the end of the sweep
  pub swept_all : (new old : List Cursor) (i : ℕ) → map both_lists new ≡ swept h i (map both_lists old) → length old ≤ i
      → map (λ c. f (both_lists c)) new ≡ map (λ c. g (both_lists c)) old
  swept_all new old i so_far enough =
      sym (map-map f both_lists new)
      ∙ ap (map f) (sweep_end both_lists h new old i so_far enough)
      ∙ map-map f h (map both_lists old)
      ∙ map-map (λ p. f (h p)) both_lists old
      ∙ each old
