-- Tests of mapped lists.
use Rattle.std.proofs.Common.{◌≡◌, ◌+◌, Bool, true, false, cond, not, nat_lt, ◌||◌, List, [], ◌∷◌, map, length, Option, None, Some, refl, sym, ap, ◌∙◌, position}
use denote.Param.Members.{Mut}
use Rattle.std.specs.Fn.{Called}
use Rattle.std.specs.Iterator.{YieldsThen}
use Rattle.std.proofs.lemmas.List.Folds.{list_all-map}
use Rattle.ft_content.proofs.Common.{AllZip, FoldsTo, list_any, list_all, position_or_len, MatchOption, YieldsList, all_from_yields_List, any_from_yields_List, length-map}

pub any_of_map : {X Y : Type 0} (p : Y → Bool) (h : X → Y) (xs : List X) → list_any p (map h xs) ≡ list_any (λ x. p (h x)) xs
any_of_map p h [] = refl
any_of_map p h (x ∷ xs) = ap (λ b. p (h x) || b) (any_of_map p h xs)

places_of_map : {X Y : Type 0} (p : Y → Bool) (h : X → Y) (xs : List X) → position_or_len p (map h xs) ≡ position_or_len (λ x. p (h x)) xs
places_of_map p h [] = refl
places_of_map p h (x ∷ xs) = ap (λ n. cond (not (p (h x))) (1 + n) 0) (places_of_map p h xs)

pub position_of_map : {X Y : Type 0} (p : Y → Bool) (h : X → Y) (xs : List X) → position p (map h xs) ≡ position (λ x. p (h x)) xs
position_of_map p h xs = λ i. cond (nat_lt (places_of_map p h xs i) (length-map xs h i)) (Some (places_of_map p h xs i)) None

pub length_of_map : {X Y : Type 0} (h : X → Y) (xs : List X) → length (map h xs) ≡ length xs
length_of_map h xs = length-map xs h

pub map_of_map : {X Y Z : Type 0} (g : Y → Z) (h : X → Y) (xs : List X) → map g (map h xs) ≡ map (λ x. g (h x)) xs
map_of_map g h [] = refl
map_of_map g h (x ∷ xs) = ap (λ zs. g (h x) ∷ zs) (map_of_map g h xs)

-- copies show what was copied
pub copies : {X Y : Type 0} (f : X → Y) {R : X → X → Type 0} (same : (x y : X) → R x y → f y ≡ f x) (xs ys : List X) → AllZip R xs ys → map f ys ≡ map f xs
copies f same [] [] h = refl
copies f same (x ∷ xs) (y ∷ ys) h = λ i. same x y h.0 i ∷ copies f same xs ys h.1 i
copies f same [] (y ∷ ys) h = absurd h
copies f same (x ∷ xs) [] h = absurd h

-- ---- what a test of items answers, where they are shown as others

pub any_shown : {S A X Y F : Type 0} {steps : S → Option A → S → Type 0} {v : A → X} {g : Mut F (A × Unit {0}) Bool} {s : S} {xs : List X} (test : Y → Bool) (shown : X → Y) (u : S) (f : F) (r : Bool)
    → (zs : List A) × (o : Option A) × (j : F) × YieldsThen steps s zs o u × FoldsTo (λ p x q. Called g p (x, tt) false q) f zs j × MatchOption o (r ≡ false) (λ x. (r ≡ true) × ((h : F) × Called g j (x, tt) true h))
    → YieldsList steps v s xs → ((x : A) (b : Bool) (q : F) → Called g f (x, tt) b q → (q ≡ f) × (b ≡ test (shown (v x)))) → r ≡ list_any test (map shown xs)
any_shown {xs = xs} test shown u f r ran e k = any_from_yields_List (λ x. test (shown x)) u f r ran e k ∙ sym (any_of_map test shown xs)

pub all_shown : {S A X Y F : Type 0} {steps : S → Option A → S → Type 0} {v : A → X} {g : Mut F (A × Unit {0}) Bool} {s : S} {xs : List X} (test : Y → Bool) (shown : X → Y) (u : S) (f : F) (r : Bool)
    → (zs : List A) × (o : Option A) × (j : F) × YieldsThen steps s zs o u × FoldsTo (λ p x q. Called g p (x, tt) true q) f zs j × MatchOption o (r ≡ true) (λ x. (r ≡ false) × ((h : F) × Called g j (x, tt) false h))
    → YieldsList steps v s xs → ((x : A) (b : Bool) (q : F) → Called g f (x, tt) b q → (q ≡ f) × (b ≡ test (shown (v x)))) → r ≡ list_all test (map shown xs)
all_shown {xs = xs} test shown u f r ran e k = all_from_yields_List (λ x. test (shown x)) u f r ran e k ∙ sym (list_all-map test shown xs)

pub neither : (x y : Bool) → (x || y) ≡ false → (x ≡ false) × (y ≡ false)
neither true y h = absurd (let no = h in cc)
neither false y h = (refl, h)
