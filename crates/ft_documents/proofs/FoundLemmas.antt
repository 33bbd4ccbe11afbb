-- A table that is found by its place.
use Rattle.std.proofs.Common.{◌≡◌, ℕ, suc, ◌+◌, Bool, true, false, cond, List, [], ◌∷◌, map, Option, Some, None, refl, sym, ap, subst, ◌∙◌, arith, position, slice_get, unwrap_or, is_some, find}
use Rattle.ft_documents.proofs.Common.{position_from, position_from-zero}

-- the first item that passes stands at this place
pub record Stands {A B : Type 0} (f : A → B) (q : B → Bool) (xs : List A) (i : ℕ) : Type 0 where
  pub item : A
  pub is : slice_get xs i ≡ Some item
  pub found : find q (map f xs) ≡ Some (f item)

placed_from : {A B : Type 0} (f : A → B) (q : B → Bool) (k : ℕ) (xs : List A) (i : ℕ) → position_from (λ x. q (f x)) k xs ≡ Some i → (j : ℕ) × (i ≡ k + j) × Stands f q xs j
placed_from f q k [] i h = absurd (let no = h in cc)
placed_from {A} {B} f q k (x ∷ xs) i h = go (q (f x)) refl (placed_from f q (k + 1) xs i) h
  where
    go : (b : Bool) → q (f x) ≡ b → (position_from (λ x. q (f x)) (k + 1) xs ≡ Some i → (j : ℕ) × (i ≡ k + 1 + j) × Stands f q xs j) → cond b (Some k) (position_from (λ x. q (f x)) (k + 1) xs) ≡ Some i → (j : ℕ) × (i ≡ k + j) × Stands f q (x ∷ xs) j
    go true is rest h = (0, (let same : k ≡ i = ap (λ o. unwrap_or o k) h in omega (arith, same)), record { item = x; is = refl; found = ap (λ b. cond b (Some (f x)) (find q (map f xs))) is })
    go false is rest h =
        let r = rest h in
        (suc r.0, (let e : i ≡ k + 1 + r.0 = r.1 in omega (arith, e)), record { item = r.2.item; is = r.2.is; found = ap (λ b. cond b (Some (f x)) (find q (map f xs))) is ∙ r.2.found })

pub placed : {A B : Type 0} (f : A → B) (q : B → Bool) (xs : List A) (i : ℕ) → position (λ x. q (f x)) xs ≡ Some i → Stands f q xs i
placed f q xs i h = let p = placed_from f q 0 xs i (sym (position_from-zero (λ x. q (f x)) xs) ∙ h) in subst (λ k. Stands f q xs k) (sym (let e : i ≡ 0 + p.0 = p.1 in omega (arith, e))) p.2

unplaced_from : {A B : Type 0} (f : A → B) (q : B → Bool) (k : ℕ) (xs : List A) → position_from (λ x. q (f x)) k xs ≡ None → find q (map f xs) ≡ None
unplaced_from f q k [] h = refl
unplaced_from {A} {B} f q k (x ∷ xs) h = go (q (f x)) refl (unplaced_from f q (k + 1) xs) h
  where
    go : (b : Bool) → q (f x) ≡ b → (position_from (λ x. q (f x)) (k + 1) xs ≡ None → find q (map f xs) ≡ None) → cond b (Some k) (position_from (λ x. q (f x)) (k + 1) xs) ≡ None → cond (q (f x)) (Some (f x)) (find q (map f xs)) ≡ None
    go true is rest h = absurd (let no = h in cc)
    go false is rest h = ap (λ b. cond b (Some (f x)) (find q (map f xs))) is ∙ rest h

pub unplaced : {A B : Type 0} (f : A → B) (q : B → Bool) (xs : List A) → position (λ x. q (f x)) xs ≡ None → find q (map f xs) ≡ None
unplaced f q xs h = unplaced_from f q 0 xs (sym (position_from-zero (λ x. q (f x)) xs) ∙ h)

pub not_some : {A : Type 0} (o : Option A) → is_some o ≡ false → o ≡ None
not_some None h = refl
not_some (Some x) h = absurd (let no = h in cc)
