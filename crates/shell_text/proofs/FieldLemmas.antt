-- Fields of a record, by their places.
use Rattle.std.proofs.Common.{◌≡◌, refl, ap, ◌∙◌, ℕ, zero, suc, ◌<◌, arith, Bool, true, false, List, [], ◌∷◌, ◌++◌, length, take, Some, None}
use Rattle.std.specs.Prelude.{◌&&◌}
use Rattle.std.specs.List.{list_all}
use Rattle.std.specs.Str.{is_utf8}
use Rattle.csv.specs.Records.{field_at}

-- one field more
pub take_field : (fields : List (List ℕ)) (i : ℕ) (field : List ℕ) → field_at fields i ≡ Some field → take (suc i) fields ≡ take i fields ++ field ∷ []
unfolding field_at
take_field [] i field e = cc
take_field (f ∷ fields) zero field e = let same : f ≡ field = cc in ap (λ x. x ∷ []) same
take_field (f ∷ fields) (suc i) field e = ap (λ xs. f ∷ xs) (take_field fields i field e)

pub has_field : (fields : List (List ℕ)) (i : ℕ) → i < length fields → field_at fields i ≡ None → ⊥
unfolding field_at
has_field [] i h e = omega arith
has_field (f ∷ fields) zero h e = cc
has_field (f ∷ fields) (suc i) h e = has_field fields i (omega arith) e

and_false : (b : Bool) → b && false ≡ false
and_false true = refl
and_false false = refl

pub bad_field : (fields : List (List ℕ)) (i : ℕ) (field : List ℕ) → field_at fields i ≡ Some field → is_utf8 field ≡ false → list_all is_utf8 fields ≡ false
unfolding field_at
bad_field [] i field e h = cc
bad_field (f ∷ fields) zero field e h = let same : f ≡ field = cc in ap (λ x. is_utf8 x && list_all is_utf8 fields) same ∙ ap (λ b. b && list_all is_utf8 fields) h
bad_field (f ∷ fields) (suc i) field e h = ap (λ b. is_utf8 f && b) (bad_field fields i field e h) ∙ and_false (is_utf8 f)
