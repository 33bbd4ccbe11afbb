-- What a search by halves finds among rows in order.
use Rattle.std.proofs.Common.{◌≡◌, ℕ, zero, suc, ◌+◌, ◌<◌, ◌≤◌, true, false, cond, List, [], ◌∷◌, map, length, get_or, Some, None, refl, sym, ap, subst, nat_lt, ltb-true, ltb-false, ◌∙◌, arith, Ordering, Less, Equal, Greater, is_eq, is_lt}
use Rattle.ft_documents.proofs.Common.{IsTotalOrder, find, below_all, is_sorted, IsNonDecreasingBy, IsPartitionPoint, ordering_index, ordering_reverse, and_parts, searchable_from_sorted}
use Rattle.ft_documents.proofs.KeyedRows.{less}

module _ {X K V : Type 0} (R : K → K → Ordering) (o : IsTotalOrder R) (f : X → K × V) (q : K) where
  turned : (k : K) (r : Ordering) → R k q ≡ r → R q k ≡ ordering_reverse r
  turned k r h = o.antisymm q k ∙ ap ordering_reverse h

  below_at : (k : K) (xs : List X) (i : ℕ) (x : X) → below_all R k (map f xs) ≡ true → i < length xs → x ≡ get_or xs i x → R k (f x).0 ≡ Less
  below_at k [] i x h within is = absurd (omega (arith, within))
  below_at k (y ∷ ys) zero x h within is = less _ (ap (λ z. is_lt (R k (f z).0)) is ∙ (and_parts (is_lt (R k (f y).0)) (below_all R k (map f ys)) h).0)
  below_at k (y ∷ ys) (suc i) x h within is = below_at k ys i x (and_parts (is_lt (R k (f y).0)) (below_all R k (map f ys)) h).1 (omega (arith, within)) is

  -- a row that ties is the one that is found
  pub row_is : (xs : List X) (i : ℕ) (x : X) → is_sorted R (map f xs) ≡ true → i < length xs → x ≡ get_or xs i x → R (f x).0 q ≡ Equal → find R q (map f xs) ≡ Some (f x).1
  row_is [] i x sorted within is ties = absurd (omega (arith, within))
  row_is (y ∷ ys) zero x sorted within is ties =
      ap (λ r. cond (is_eq r) (Some (f y).1) (find R q (map f ys))) (turned (f y).0 Equal (ap (λ z. R (f z).0 q) (sym is) ∙ ties)) ∙ ap (λ z. Some (f z).1) (sym is)
  row_is (y ∷ ys) (suc i) x sorted within is ties =
      let parts = and_parts (below_all R (f y).0 (map f ys)) (is_sorted R (map f ys)) sorted in
      let below : R (f y).0 (f x).0 ≡ Less = below_at (f y).0 ys i x parts.0 (omega (arith, within)) is in
      let under : R q (f y).0 ≡ Greater = sym (o.congr (f x).0 q (f y).0 ties) ∙ (o.antisymm (f x).0 (f y).0 ∙ ap ordering_reverse below) in
      ap (λ r. cond (is_eq r) (Some (f y).1) (find R q (map f ys))) under ∙ row_is ys i x parts.1 (omega (arith, within)) is ties

  none_of : (xs : List X) → ((k : ℕ) (d : X) → k < length xs → is_eq (R q (f (get_or xs k d)).0) ≡ false) → find R q (map f xs) ≡ None
  none_of [] h = refl
  none_of (x ∷ xs) h = ap (λ b. cond b (Some (f x).1) (find R q (map f xs))) (h 0 x (omega arith)) ∙ none_of xs (λ k d within. h (suc k) d (omega (arith, within)))

  each_next : (xs : List X) → is_sorted R (map f xs) ≡ true → (k : ℕ) (d : X) → 0 ≤ k → k + 1 < length xs → is_lt (R (f (get_or xs (k + 1) d)).0 (f (get_or xs k d)).0) ≡ false
  each_next [] sorted k d low within = absurd (omega (arith, within))
  each_next (x ∷ []) sorted k d low within = absurd (omega (arith, within))
  each_next (x ∷ y ∷ xs) sorted zero d low within =
      let first = (and_parts (is_lt (R (f x).0 (f y).0)) (below_all R (f x).0 (map f xs)) (and_parts (below_all R (f x).0 (map f (y ∷ xs))) (is_sorted R (map f (y ∷ xs))) sorted).0).0 in
      ap is_lt (o.antisymm (f y).0 (f x).0 ∙ ap ordering_reverse (less _ first))
  each_next (x ∷ y ∷ xs) sorted (suc k) d low within =
      subst (λ n. is_lt (R (f (get_or (x ∷ y ∷ xs) n d)).0 (f (get_or (y ∷ xs) k d)).0) ≡ false) {x = suc (k + 1)} {y = suc k + 1} (omega arith)
      (each_next (y ∷ xs) (and_parts (below_all R (f x).0 (map f (y ∷ xs))) (is_sorted R (map f (y ∷ xs))) sorted).1 k d (omega arith) (omega (arith, within)))

  -- where the search ends between rows there is none
  pub no_row : (xs : List X) (i : ℕ) → is_sorted R (map f xs) ≡ true → (IsNonDecreasingBy (λ y. ordering_index (R (f y).0 q)) xs → IsPartitionPoint (λ y. R (f y).0 q ≡ Less) (λ y. R (f y).0 q ≡ Greater) xs i) → find R q (map f xs) ≡ None
  no_row xs i sorted ends =
      let parts = ends (searchable_from_sorted o (λ y. (f y).0) xs q (each_next xs sorted)) in
      none_of xs (λ k d within. elim (nat_lt k i) as (λ b. nat_lt k i ≡ b → is_eq (R q (f (get_or xs k d)).0) ≡ false) [
        | true ↦ λ first. ap is_eq (turned (f (get_or xs k d)).0 Less (parts.0 k d (omega arith) (ltb-true k i first)))
        | false ↦ λ last. ap is_eq (turned (f (get_or xs k d)).0 Greater (parts.1 k d (ltb-false k i last) within))
      ] refl)
