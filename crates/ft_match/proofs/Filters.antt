-- Where a chunk's first colon stands, and which column its filter names.
use Rattle.std.proofs.Common.{◌≡◌, ℕ, ◌+◌, ◌<◌, Bool, true, false, cond, List, [], ◌∷◌, length, map, refl, ap, ◌∙◌, arith, String, Global, not, nat_lt, Option, Some, None, position, MatchOption, string_bytes, lt-ltb, le-ltb, Bor}
use Rattle.std.specs.Str.{str_eq_ignore_ascii_case}
use Rattle.ft_match.proofs.Common.{list_any, position_or_len, before_first, after_first, nat_tests, length-map, is_colon, column_filter_of}

-- something passes exactly where its first place is in the list
pub any_place : {X : Type 0} (p : X → Bool) (xs : List X) → list_any p xs ≡ nat_lt (position_or_len p xs) (length xs)
any_place p [] = refl
any_place p (x ∷ xs) = grind (arith, any_place p xs)

pub place-map : {X Y : Type 0} (p : Y → Bool) (f : X → Y) (xs : List X) → position_or_len p (map f xs) ≡ position_or_len (λ x. p (f x)) xs
place-map p f [] = refl
place-map p f (x ∷ xs) = ap (λ n. cond (not (p (f x))) (1 + n) 0) (place-map p f xs)

pub position-map : {X Y : Type 0} (p : Y → Bool) (f : X → Y) (xs : List X) → position p (map f xs) ≡ position (λ x. p (f x)) xs
position-map p f xs = grind (arith, nat_tests, length-map xs f, place-map p f xs)

-- what `split_once` says of the first colon, as a test
pub colon_parts : (chunk : List ℕ) (r : Option (Bor (List ℕ) × Bor (List ℕ)))
    → MatchOption r (position_or_len is_colon chunk ≡ length chunk)
    (λ x. (position_or_len is_colon chunk < length chunk) × (x.0.now ≡ before_first is_colon chunk) × (x.1.now ≡ after_first is_colon chunk))
    → MatchOption r (list_any is_colon chunk ≡ false) (λ x. (list_any is_colon chunk ≡ true) × (x.0.now ≡ before_first is_colon chunk)
    × (x.1.now ≡ after_first is_colon chunk))
colon_parts chunk None none = any_place is_colon chunk ∙ le-ltb (position_or_len is_colon chunk) (length chunk) (omega arith)
colon_parts chunk (Some x) parts = (any_place is_colon chunk ∙ lt-ltb (position_or_len is_colon chunk) (length chunk) parts.0, parts.1, parts.2)

-- the filter of a chunk with a colon is the column of the name before it
pub filter_named : (columns : List (String Global)) (chunk name : List ℕ) → list_any is_colon chunk ≡ true → name ≡ before_first is_colon chunk
    → column_filter_of (map string_bytes columns) chunk ≡ position (λ c. str_eq_ignore_ascii_case (string_bytes c) name) columns
filter_named columns chunk name has same = grind (arith, nat_tests, position-map)
