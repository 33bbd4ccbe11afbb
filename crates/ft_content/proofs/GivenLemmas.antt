-- Values under names.
use Rattle.std.proofs.Common.{◌≡◌, ℕ, Bool, true, false, cond, List, [], ◌∷◌, ◌++◌, map, ◌≤◌, Option, Some, None, ℤ, option_map, refl, arith, sym, ap, ◌∙◌, zip, slice_get, find, Bor}
use Rattle.std.proofs.lemmas.Iterator.Adapters.{option_map_id}
use Rattle.ft_content.proofs.Common.{filter_map, cons_option, MatchOption, YieldsList, nth_from_yields_List, Cell, Null, Int, Text, shown_value, Value, is_docid, docid_of_value, docids_named}

pub zip_of_maps : {A B C D : Type 0} (f : A → C) (g : B → D) (xs : List A) (ys : List B) → zip (map f xs) (map g ys) ≡ map (λ (p : A × B). (f p.0, g p.1)) (zip xs ys)
zip_of_maps f g [] ys = refl
zip_of_maps f g (x ∷ xs) [] = refl
zip_of_maps f g (x ∷ xs) (y ∷ ys) = ap (λ ps. (f x, g y) ∷ ps) (zip_of_maps f g xs ys)

pub filter_map_of_map : {X Y Z : Type 0} (p : Y → Option Z) (h : X → Y) (xs : List X) → filter_map p (map h xs) ≡ filter_map (λ x. p (h x)) xs
filter_map_of_map p h [] = refl
filter_map_of_map p h (x ∷ xs) = ap (cons_option (p (h x))) (filter_map_of_map p h xs)

-- the docid that a value gives
abbrev pub docid_given : List ℕ × Cell → Option ℤ
docid_given v = slice_get (cond (is_docid v.0) (docid_of_value v.1) []) 0

number_first : (cell : Cell) (b : Bool) (rest : List ℤ) → cond b (docid_of_value cell) [] ++ rest ≡ cons_option (slice_get (cond b (docid_of_value cell) []) 0) rest
number_first Null true rest = refl
number_first (Int n) true rest = refl
number_first (Text t) true rest = refl
number_first cell false rest = refl

pub docids_are : (values : List (List ℕ × Cell)) → docids_named values ≡ filter_map docid_given values
docids_are [] = refl
docids_are (v ∷ vs) = number_first v.1 (is_docid v.0) (docids_named vs) ∙ ap (cons_option (docid_given v)) (docids_are vs)

-- ---- values of a row, borrowed

-- what the places of a pair point to
abbrev pub pointed : Bor (Bor (List ℕ)) × Bor Value → Bor (List ℕ) × Value
pointed p = (p.0.now, p.1.now)

-- a value under a name, as the definitions see it
abbrev pub given : Bor (List ℕ) × Value → List ℕ × Cell
given p = (p.0.now, shown_value p.1)

pub find_of_map : {X Y : Type 0} (p : Y → Bool) (h : X → Y) (xs : List X) → option_map h (find (λ x. p (h x)) xs) ≡ find p (map h xs)
find_of_map p h [] = refl
find_of_map p h (x ∷ xs) = elim (p (h x)) as (λ b. option_map h (cond b (Some x) (find (λ x. p (h x)) xs)) ≡ cond b (Some (h x)) (find p (map h xs))) [ true ↦ refl | false ↦ find_of_map p h xs ]

-- a search among the values of a row
pub find_given : (p : List ℕ × Cell → Bool) (names : List (Bor (List ℕ))) (row : List Value) →
    option_map given (find (λ v. p (given v)) (zip names row)) ≡ find p (zip (map (λ (n : Bor (List ℕ)). n.now) names) (map shown_value row))
find_given p names row = find_of_map p given (zip names row) ∙ ap (find p) (sym (zip_of_maps (λ (n : Bor (List ℕ)). n.now) shown_value names row))

-- what `next` gives is the first of the items
pub first_item : {S A : Type 0} {steps : S → Option A → S → Type 0} {s : S} {all : List A} (r : Option A) (u : S) → steps s r u → YieldsList steps (λ x. x) s all → r ≡ slice_get all 0
first_item {s = s} r u h e = sym (option_map_id r) ∙ nth_from_yields_List r u 0 ([], (s, refl, h), elim r as (λ o. MatchOption o (0 ≤ 0) (λ _. ◌≡◌ {A = ℕ} 0 0)) [ Some x ↦ refl | None ↦ omega arith ]) e
