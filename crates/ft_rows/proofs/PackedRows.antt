-- Lists of bytes that are spots or damaged, computed.
use Rattle.std.proofs.Common.{◌≡◌, ℕ, [], ◌∷◌, Some, None, refl}
use Rattle.ft_rows.proofs.Common.{Spot}
use Rattle.ft_rows.specs.Packed.{leb128, numbers_in, packed, unpacked}

abbrev pub spot : ℕ → ℕ → ℕ → ℕ → Spot
spot column pos place size = record { column = column; pos = pos; place = place; size = size }

-- 300 is `ac02`
pub three_hundred : leb128 300 ≡ 0xac ∷ 0x02 ∷ []
unfolding leb128
three_hundred = refl

-- `world` in the first message of the table mail
pub world : packed (spot 0 1 6 5 ∷ spot 1 5 24 5 ∷ []) ≡ 0x00 ∷ 0x01 ∷ 0x06 ∷ 0x05 ∷ 0x01 ∷ 0x05 ∷ 0x18 ∷ 0x05 ∷ []
unfolding packed leb128
world = refl

pub world_read : unpacked (0x00 ∷ 0x01 ∷ 0x06 ∷ 0x05 ∷ 0x01 ∷ 0x05 ∷ 0x18 ∷ 0x05 ∷ []) ≡ Some (spot 0 1 6 5 ∷ spot 1 5 24 5 ∷ [])
unfolding unpacked numbers_in
world_read = refl

-- `message` there
pub message : packed (spot 1 1 5 7 ∷ spot 1 6 30 7 ∷ []) ≡ 0x01 ∷ 0x01 ∷ 0x05 ∷ 0x07 ∷ 0x00 ∷ 0x05 ∷ 0x19 ∷ 0x07 ∷ []
unfolding packed leb128
message = refl

-- `a` in `a a a`
pub a_thrice : packed (spot 0 0 0 1 ∷ spot 0 1 2 1 ∷ spot 0 2 4 1 ∷ []) ≡ 0 ∷ 0 ∷ 0 ∷ 1 ∷ 0 ∷ 1 ∷ 2 ∷ 1 ∷ 0 ∷ 1 ∷ 2 ∷ 1 ∷ []
unfolding packed leb128
a_thrice = refl

pub a_thrice_read : unpacked (0 ∷ 0 ∷ 0 ∷ 1 ∷ 0 ∷ 1 ∷ 2 ∷ 1 ∷ 0 ∷ 1 ∷ 2 ∷ 1 ∷ []) ≡ Some (spot 0 0 0 1 ∷ spot 0 1 2 1 ∷ spot 0 2 4 1 ∷ [])
unfolding unpacked numbers_in
a_thrice_read = refl

-- no bytes
pub damaged_empty : unpacked [] ≡ None
unfolding unpacked numbers_in
damaged_empty = refl

-- the last number is missing
pub damaged_short : unpacked (0x00 ∷ 0x01 ∷ 0x06 ∷ []) ≡ None
unfolding unpacked numbers_in
damaged_short = refl

-- 0 in two bytes
pub damaged_long_form : unpacked (0x80 ∷ 0x00 ∷ 0x01 ∷ 0x06 ∷ 0x05 ∷ 0x01 ∷ 0x05 ∷ 0x18 ∷ 0x05 ∷ []) ≡ None
unfolding unpacked numbers_in
damaged_long_form = refl

-- a size of 0
pub damaged_size : unpacked (0x00 ∷ 0x01 ∷ 0x06 ∷ 0x00 ∷ []) ≡ None
unfolding unpacked numbers_in
damaged_size = refl

-- a position that doesn't rise
pub damaged_order : unpacked (0x00 ∷ 0x01 ∷ 0x06 ∷ 0x05 ∷ 0x00 ∷ 0x00 ∷ 0x01 ∷ 0x05 ∷ []) ≡ None
unfolding unpacked numbers_in
damaged_order = refl

-- column 100
pub damaged_column : unpacked (0x64 ∷ 0x00 ∷ 0x00 ∷ 0x01 ∷ []) ≡ None
unfolding unpacked numbers_in
damaged_column = refl

-- column 99
pub last_column : unpacked (0x63 ∷ 0x00 ∷ 0x00 ∷ 0x01 ∷ []) ≡ Some (spot 99 0 0 1 ∷ [])
unfolding unpacked numbers_in
last_column = refl
