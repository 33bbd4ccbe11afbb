-- Names in the order of their bytes.
use Rattle.std.proofs.Common.{◌+◌, ◌<◌, List, [], ◌∷◌, map, length, ◌∙◌, arith, string_bytes, String, Global}
use Rattle.std.specs.List.Sorted.{IsSorted}
use Rattle.std.specs.Ordering.{nat_cmp, is_lt}
use Rattle.std.specs.Cmp.Lexicographic.{slice_cmp}
use Rattle.std.specs.String.{string_cmp}
use Rattle.ft_statements.proofs.Common.{get_or-map, length-map}

pub sorted_texts : (names : List (String Global)) → IsSorted string_cmp names → IsSorted (slice_cmp nat_cmp) (map string_bytes names)
sorted_texts [] h = λ k d low high. absurd (omega (arith, high))
sorted_texts (name ∷ names) h = λ k d low high.
    let within : k + 1 < length (name ∷ names) = omega (arith, high, length-map (name ∷ names) string_bytes) in
    let next = get_or-map string_bytes (name ∷ names) (k + 1) name d within in
    let here = get_or-map string_bytes (name ∷ names) k name d (omega (arith, within)) in
    (λ j. is_lt (slice_cmp nat_cmp (next j) (here j))) ∙ h k name low within
