-- Steps of the loops that lay texts out in columns.
use Rattle.std.proofs.Common.{◌≡◌, refl, sym, ap, ◌∙◌, ℕ, suc, ◌+◌, ◌<◌, arith, Bool, false, List, [], ◌∷◌, ◌++◌, length, drop, max, ◌-◌}
use Rattle.std.specs.Prelude.{◌==◌, if◌then◌else◌}
use Rattle.std.proofs.lemmas.List.{append_assoc, drop-drop}
use Rattle.std.proofs.lemmas.Bool.Decides.{nat_tests}
use Rattle.shell_text.specs.Print.{first_width, in_columns, other_widths, padded, spaces, width_of, wider}

other-drop : (i : ℕ) (widths : List ℕ) → other_widths (drop i widths) ≡ drop (i + 1) widths
other-drop i widths = other_is (drop i widths) ∙ drop-drop 1 i widths
  where
    other_is : (ws : List ℕ) → other_widths ws ≡ drop 1 ws
    other_is [] = refl
    other_is (w ∷ ws) = refl

pub wider_step : (made : List ℕ) (i : ℕ) (widths : List ℕ) (text : List ℕ) (texts rest : List (List ℕ)) (whole : List ℕ) → texts ≡ text ∷ rest → made ++ wider (drop i widths) texts ≡ whole
    → (made ++ max (first_width (drop i widths)) (width_of text) ∷ []) ++ wider (drop (i + 1) widths) rest ≡ whole
wider_step made i widths text texts rest whole e h =
    append_assoc made (max (first_width (drop i widths)) (width_of text) ∷ []) (wider (drop (i + 1) widths) rest)
    ∙ ap (λ ws. made ++ max (first_width (drop i widths)) (width_of text) ∷ wider ws rest) (sym (other-drop i widths))
    ∙ ap (λ ts. made ++ wider (drop i widths) ts) (sym e) ∙ h

abbrev pub column_text : Bool → ℕ → List ℕ → List ℕ
column_text last width text = if last then text else padded width text ++ spaces 2

one_column : (widths : List ℕ) (text : List ℕ) (rest : List (List ℕ)) → in_columns widths (text ∷ rest) ≡ column_text (length rest == 0) (first_width widths) text ++ in_columns (other_widths widths) rest
one_column widths text [] = refl
one_column widths text (next ∷ more) = ap (λ last. column_text last (first_width widths) text ++ in_columns (other_widths widths) (next ∷ more)) (sym (some (length more)))
  where
    some : (n : ℕ) → suc n == 0 ≡ false
    some n = grind (arith, nat_tests)

pub column_step : (made : List ℕ) (i : ℕ) (widths : List ℕ) (text : List ℕ) (texts rest : List (List ℕ)) (last : Bool) (whole : List ℕ) → texts ≡ text ∷ rest → last ≡ (length rest == 0)
    → made ++ in_columns (drop i widths) texts ≡ whole → (made ++ column_text last (first_width (drop i widths)) text) ++ in_columns (drop (i + 1) widths) rest ≡ whole
column_step made i widths text texts rest last whole e f h =
    append_assoc made (column_text last (first_width (drop i widths)) text) (in_columns (drop (i + 1) widths) rest)
    ∙ ap (λ l. made ++ (column_text l (first_width (drop i widths)) text ++ in_columns (drop (i + 1) widths) rest)) f
    ∙ ap (λ ws. made ++ (column_text (length rest == 0) (first_width (drop i widths)) text ++ in_columns ws rest)) (sym (other-drop i widths))
    ∙ ap (λ line. made ++ line) (sym (one_column (drop i widths) text rest))
    ∙ ap (λ ts. made ++ in_columns (drop i widths) ts) (sym e) ∙ h

pub last_is : (i n k : ℕ) → i < n → k ≡ n - (i + 1) → (i + 1 == n) ≡ (k == 0)
last_is i n k h e = grind (arith, nat_tests)
