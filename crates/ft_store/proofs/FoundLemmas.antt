-- Numbers that stand in the first column of rows.
use Rattle.std.proofs.Common.{◌≡◌, ℤ, List, [], ◌∷◌, map, refl, sym, ap, ◌∙◌, is_some, slice_get, option_map}
use Rattle.ft_store.proofs.Common.{map-map, Value, Int, Row, column, id_in}

abbrev pub AreNumbers : List ℤ → List Row → Type 0
AreNumbers numbers rows = map (λ n. Int n) numbers ≡ map (λ row. column row 0) rows

pub by_number : {X : Type 0} (f : Value → X) (numbers : List ℤ) (rows : List Row) → AreNumbers numbers rows → map (λ n. f (Int n)) numbers ≡ map (λ row. f (column row 0)) rows
by_number f numbers rows h = sym (map-map f (λ n. Int n) numbers) ∙ ap (map f) h ∙ map-map f (λ (row : Row). column row 0) rows

same_each : (numbers : List ℤ) → numbers ≡ map (λ n. n) numbers
same_each [] = refl
same_each (n ∷ numbers) = ap (λ l. n ∷ l) (same_each numbers)

pub numbers_in : (numbers : List ℤ) (rows : List Row) → AreNumbers numbers rows → numbers ≡ map (λ row. id_in (column row 0)) rows
numbers_in numbers rows h = same_each numbers ∙ by_number id_in numbers rows h

pub some_number : (numbers : List ℤ) (rows : List Row) → AreNumbers numbers rows → is_some (slice_get numbers 0) ≡ is_some (slice_get rows 0)
some_number [] [] h = refl
some_number [] (r ∷ rows) h = absurd cc
some_number (n ∷ numbers) [] h = absurd cc
some_number (n ∷ numbers) (r ∷ rows) h = refl

pub first_number : (numbers : List ℤ) (rows : List Row) → AreNumbers numbers rows → slice_get numbers 0 ≡ option_map (λ row. id_in (column row 0)) (slice_get rows 0)
first_number [] [] h = refl
first_number [] (r ∷ rows) h = absurd cc
first_number (n ∷ numbers) [] h = absurd cc
first_number (n ∷ numbers) (r ∷ rows) h = ap (λ l. option_map id_in (slice_get l 0)) h
