-- Steps. How a packed list is read: its places from the first on, each tested as it comes.
use Rattle.std.specs.Prelude.{◌≡◌, ℕ, suc, ◌+◌, ◌<◌, ◌≤◌, Bool, false, ◌&&◌, ◌||◌, ◌==◌, List, [], ◌∷◌, length, Option, Some, None, if◌then◌else◌}
use Rattle.std.specs.Option.{option_and_then}
use Rattle.ft_rows.specs.Packed.{Spot, numbers_in, is_spot, is_after}

abbrev pub spot_from : Spot → ℕ → ℕ → ℕ → ℕ → Spot
spot_from last c p l z = record {
  column = last.column + c;
  pos = (if c == 0 then last.pos else 0) + p;
  place = (if c == 0 then last.place else 0) + l;
  size = z;
}

abbrev pub passes : Bool → Spot → Spot → Bool
passes first last s = is_spot s && (first || is_after last s)

-- the places that numbers say after the last one, each tested as it comes
abbrev pub checked : Bool → Spot → List ℕ → Option (List Spot)
checked first last [] = Some []
checked first last (c ∷ []) = None
checked first last (c ∷ p ∷ []) = None
checked first last (c ∷ p ∷ l ∷ []) = None
checked first last (c ∷ p ∷ l ∷ z ∷ ns) =
    let s = spot_from last c p l z in
    if passes first last s then option_and_then (λ ss. Some (s ∷ ss)) (checked false s ns) else None

-- the places that bytes say after the last one
abbrev pub read_after : Bool → Spot → List ℕ → Option (List Spot)
read_after first last bytes = option_and_then (checked first last) (numbers_in bytes)

-- the numbers of bytes are n and those of the rest
pub record BeginsWith (bytes : List ℕ) (n : ℕ) (rest : List ℕ) : Type 0 where
  pub numbers : numbers_in bytes ≡ option_and_then (λ ns. Some (n ∷ ns)) (numbers_in rest)
  pub shorter : length rest < length bytes

-- the first number of bytes, where they have numbers, is greater than any of a list
abbrev pub HasNoNumber : List ℕ → Type 0
HasNoNumber bytes = (n : ℕ) (ns : List ℕ) → numbers_in bytes ≡ Some (n ∷ ns) → 1000000 < n

-- the same of the first number without its lowest seven bits; and 0 is no such part
abbrev pub HasNoUpper : List ℕ → Type 0
HasNoUpper bytes = (n : ℕ) (ns : List ℕ) → numbers_in bytes ≡ Some (suc n ∷ ns) → 16384 ≤ suc n

-- the places of bytes are one that a posting may have and those of the rest
pub record BeginsWithSpot (first : Bool) (last : Spot) (bytes : List ℕ) (spot : Spot) (rest : List ℕ) : Type 0 where
  pub places : read_after first last bytes ≡ option_and_then (λ ss. Some (spot ∷ ss)) (read_after false spot rest)
  pub shorter : length rest < length bytes
