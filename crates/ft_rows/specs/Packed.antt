-- Meaning. The packed list: the spots of one term in one document as bytes (own choice; the numbers are not those of "Variable Length
-- Integer (varint) Format").
use Rattle.std.specs.Prelude.{◌≡◌, ℕ, zero, suc, ◌+◌, ◌-◌, ◌*◌, ◌/◌, ◌%◌, ◌<◌, Bool, true, false, ◌&&◌, ◌||◌, List}
use Rattle.std.specs.Prelude.{[], ◌∷◌, Option, Some, None, nat_lt, nat_le, ◌==◌, slice_index, IsTrue, if◌then◌else◌}
use Rattle.std.specs.List.{flat_map}
use Rattle.std.specs.Option.{option_and_then}
pub use Rattle.ft_values.specs.declared.rows.Spot.{Spot}

-- unsigned LEB128 in at most k bytes: seven bits a byte from the lowest on, 128 more in each but the last
abbrev pub leb128_within : ℕ → ℕ → List ℕ
leb128_within zero n = []
leb128_within (suc k) n = if nat_lt n 128 then n ∷ [] else (n % 128 + 128) ∷ leb128_within k (n / 128)

-- of any number below 2 ^ 70
unfoldable pub leb128 : ℕ → List ℕ
leb128 n = leb128_within 10 n

-- The numbers before a byte that goes on: what stands for the rest isn't 0, so each number has one form.
abbrev pub going_on : ℕ → List ℕ → Option (List ℕ)
going_on b [] = None
going_on b (zero ∷ ns) = None
going_on b (suc high ∷ ns) = Some ((b - 128 + 128 * suc high) ∷ ns)

-- the numbers that bytes spell, each in its shortest form
unfoldable pub numbers_in : List ℕ → Option (List ℕ)
numbers_in [] = Some []
numbers_in (b ∷ bs) = option_and_then (λ ns. if nat_lt b 128 then Some (b ∷ ns) else going_on b ns) (numbers_in bs)

-- where the first spot counts from
abbrev pub origin : Spot
origin = record { column = 0; pos = 0; place = 0; size = 0 }

-- four numbers for each spot: in one column position and place count from those of the spot before
abbrev pub numbers_after : Spot → List Spot → List ℕ
numbers_after last [] = []
numbers_after last (s ∷ ss) =
    let same = s.column == last.column in
    (s.column - last.column) ∷ (s.pos - (if same then last.pos else 0)) ∷ (s.place - (if same then last.place else 0)) ∷ s.size ∷ numbers_after s ss

abbrev pub spots_after : Spot → List ℕ → Option (List Spot)
spots_after last [] = Some []
spots_after last (c ∷ []) = None
spots_after last (c ∷ p ∷ []) = None
spots_after last (c ∷ p ∷ l ∷ []) = None
spots_after last (c ∷ p ∷ l ∷ z ∷ ns) =
    let s : Spot = record { column = last.column + c; pos = (if c == 0 then last.pos else 0) + p; place = (if c == 0 then last.place else 0) + l; size = z } in
    option_and_then (λ ss. Some (s ∷ ss)) (spots_after s ns)

-- s stands after last: in a later column, or later in the same one
abbrev pub is_after : Spot → Spot → Bool
is_after last s = nat_lt last.column s.column || (last.column == s.column && nat_lt last.pos s.pos && nat_lt last.place s.place)

abbrev pub is_spot : Spot → Bool
is_spot s = nat_le s.column 99 && nat_lt s.pos 1000000 && nat_lt s.place 1000000 && nat_lt 0 s.size && nat_le s.size 1000000

abbrev pub rise_after : Spot → List Spot → Bool
rise_after last [] = true
rise_after last (s ∷ ss) = is_spot s && is_after last s && rise_after s ss

-- a list of spots that a posting may have: some, rising, within the limits
abbrev pub are_spots : List Spot → Bool
are_spots [] = false
are_spots (s ∷ ss) = is_spot s && rise_after s ss

-- spots that a list can be packed of
abbrev pub CanPack : List Spot → Type 0
CanPack spots = IsTrue (are_spots spots)

-- the packed list of spots
unfoldable pub packed : List Spot → List ℕ
packed ss = flat_map leb128 (numbers_after origin ss)

-- the spots whose packed list this is, None for any other bytes
unfoldable pub unpacked : List ℕ → Option (List Spot)
unpacked bytes = option_and_then (λ ss. if are_spots ss then Some ss else None) (option_and_then (spots_after origin) (numbers_in bytes))

-- Spots that a posting may have are read again from their packed list.
abbrev pub PackedIsRead : Type 0
PackedIsRead = (ss : List Spot) → CanPack ss → unpacked (packed ss) ≡ Some ss

-- Two lists of spots with one packed list are equal.
abbrev pub PackedIsExact : Type 0
PackedIsExact = (ss ts : List Spot) → CanPack ss → CanPack ts → packed ss ≡ packed ts → ss ≡ ts

-- What is read is the packed list of spots that a posting may have, so any other bytes are damaged.
abbrev pub OnlyPackedIsRead : Type 0
OnlyPackedIsRead =
    (bytes : List ℕ) (ss : List Spot) → ((i : ℕ) → slice_index bytes i < 256) → unpacked bytes ≡ Some ss → CanPack ss × (packed ss ≡ bytes)
