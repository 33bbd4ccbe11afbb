-- Names, one after the other.
use Rattle.std.proofs.Common.{◌≡◌, ℕ, suc, ◌+◌, ◌<◌, ◌||◌, Bool, true, false, List, ◌∷◌, map, length, drop, get_or, refl, sym, ap, ◌∙◌, drop-cons, add-one}
use Rattle.ft_content.proofs.Common.{list_any, same_name, repeats_name}
use Rattle.ft_content.proofs.Lists.{any_of_map}

-- things that have names
module _ {X : Type 0} (name_of : X → List ℕ) where
  -- from a place on a name repeats where that name stands again after it, or one of the later
  -- names does
  repeats_from : (xs : List X) (k : ℕ) (x : X) → k < length xs → x ≡ get_or xs k x →
      repeats_name (map name_of (drop k xs)) ≡ (list_any (λ o. same_name (name_of x) (name_of o)) (drop (k + 1) xs) || repeats_name (map name_of (drop (k + 1) xs)))
  repeats_from xs k x h e =
      let front : drop k xs ≡ x ∷ drop (k + 1) xs = rw (add-one, drop-cons xs k x h) (ap (λ y. y ∷ drop (suc k) xs) (sym e)) in
      ap (λ ys. repeats_name (map name_of ys)) front
      ∙ ap (λ b. b || repeats_name (map name_of (drop (k + 1) xs))) (any_of_map (same_name (name_of x)) name_of (drop (k + 1) xs))

  -- a look at one name, whose bytes these are, and at the names after it
  pub repeats_here : (xs : List X) (k : ℕ) (x : X) (bytes : List ℕ) (found whole : Bool) → k < length xs → x ≡ get_or xs k x → bytes ≡ name_of x →
      found ≡ list_any (λ o. same_name bytes (name_of o)) (drop (k + 1) xs) → repeats_name (map name_of (drop k xs)) ≡ whole → found ≡ true → true ≡ whole
  repeats_here xs k x bytes found whole h e b f w is =
      sym is ∙ f ∙ ap (λ n. list_any (λ o. same_name n (name_of o)) (drop (k + 1) xs)) b
      ∙ settled (list_any (λ o. same_name (name_of x) (name_of o)) (drop (k + 1) xs)) (sym (ap (λ n. list_any (λ o. same_name n (name_of o)) (drop (k + 1) xs)) b) ∙ sym f ∙ is)
      ∙ sym (repeats_from xs k x h e) ∙ w
    where
      settled : (b : Bool) → b ≡ true → b ≡ (b || repeats_name (map name_of (drop (k + 1) xs)))
      settled true h = refl
      settled false h = absurd (let no = h in cc)

  pub repeats_later : (xs : List X) (k : ℕ) (x : X) (bytes : List ℕ) (found whole : Bool) → k < length xs → x ≡ get_or xs k x → bytes ≡ name_of x →
      found ≡ list_any (λ o. same_name bytes (name_of o)) (drop (k + 1) xs) → repeats_name (map name_of (drop k xs)) ≡ whole → found ≡ false →
      repeats_name (map name_of (drop (k + 1) xs)) ≡ whole
  repeats_later xs k x bytes found whole h e b f w is =
      ap (λ y. y || repeats_name (map name_of (drop (k + 1) xs))) (sym is ∙ f ∙ ap (λ n. list_any (λ o. same_name n (name_of o)) (drop (k + 1) xs)) b)
      ∙ sym (repeats_from xs k x h e) ∙ w
