-- Steps of the loops that list names.
use Rattle.std.proofs.Common.{◌≡◌, refl, sym, ap, ◌∙◌, ℕ, zero, suc, ◌+◌, ◌-◌, ◌<◌, ◌≤◌, arith, List, [], ◌∷◌, ◌++◌, length, map, Some, None, get_or, string_bytes, String, Global}
use Rattle.std.specs.Prelude.{option_to_list}
use Rattle.std.specs.List.{slice_get}
use Rattle.std.proofs.lemmas.List.{append_assoc}
use Rattle.shell_text.specs.Print.{names_line, names_lines, names_on}

get-past : (names : List (List ℕ)) (at : ℕ) → length names ≤ at → slice_get names at ≡ None
get-past [] at h = refl
get-past (x ∷ xs) zero h = absurd (omega arith)
get-past (x ∷ xs) (suc at) h = get-past xs at (omega arith)

-- no name is left
pub names-past : (n down at : ℕ) (names : List (List ℕ)) → length names ≤ at → names_on n down at names ≡ []
names-past zero down at names h = refl
names-past (suc n) down at names h = ap (λ o. option_to_list o ++ names_on n down (at + down) names) (get-past names at h) ∙ names-past n down (at + down) names (omega arith)

get-at : (names : List (String Global)) (at : ℕ) (name : String Global) → at < length names → name ≡ get_or names at name → slice_get (map string_bytes names) at ≡ Some (string_bytes name)
get-at [] at name h e = absurd (omega arith)
get-at (x ∷ xs) zero name h e = ap (λ n. Some (string_bytes n)) (sym e)
get-at (x ∷ xs) (suc at) name h e = get-at xs at name (omega arith) e

pub names_step : (made : List (List ℕ)) (across counter down at : ℕ) (names : List (String Global)) (name : String Global) (whole : List (List ℕ)) → counter < across → at < length names → name ≡ get_or names at name
    → made ++ names_on (across - counter) down at (map string_bytes names) ≡ whole → (made ++ string_bytes name ∷ []) ++ names_on (across - (counter + 1)) down (at + down) (map string_bytes names) ≡ whole
names_step made across counter down at names name whole c h e w =
    let left : across - counter ≡ suc (across - (counter + 1)) = omega arith in
    append_assoc made (string_bytes name ∷ []) (names_on (across - (counter + 1)) down (at + down) (map string_bytes names))
    ∙ ap (λ o. made ++ (option_to_list o ++ names_on (across - (counter + 1)) down (at + down) (map string_bytes names))) (sym (get-at names at name h e))
    ∙ ap (λ n. made ++ names_on n down at (map string_bytes names)) (sym left) ∙ w

pub lines_step : (made : List ℕ) (down j : ℕ) (names : List (List ℕ)) (whole : List ℕ) → j < down → made ++ names_lines (down - j) j names ≡ whole → (made ++ names_line j names) ++ names_lines (down - (j + 1)) (j + 1) names ≡ whole
lines_step made down j names whole h w =
    let left : down - j ≡ suc (down - (j + 1)) = omega arith in
    append_assoc made (names_line j names) (names_lines (down - (j + 1)) (j + 1) names) ∙ ap (λ n. made ++ names_lines n j names) (sym left) ∙ w
