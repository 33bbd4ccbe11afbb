-- Texts of an import.
use Rattle.std.proofs.Common.{◌≡◌, ℕ, zero, suc, ◌+◌, ◌≤◌, List, [], ◌∷◌, ◌++◌, replicate, sym, ap, ◌∙◌, arith, codes, append_assoc}
use Rattle.std.proofs.lemmas.Grind.{flat_map-append}
use Rattle.plain_sql.proofs.Common.{flat_map, append-nil, replicate_more, with_commas}

abbrev pub marks : ℕ → List ℕ
marks n = with_commas (λ mark. mark) (replicate n (codes "?"))

-- one more after others
commas_more : {A : Type 0} (f : A → List ℕ) (x : A) (xs : List A) (y : A) → with_commas f (x ∷ (xs ++ y ∷ [])) ≡ with_commas f (x ∷ xs) ++ (codes ", " ++ f y)
commas_more f x xs y =
    ap (λ later. f x ++ later) (flat_map-append (λ z. codes ", " ++ f z) xs (y ∷ []) ∙ ap (λ last. flat_map (λ z. codes ", " ++ f z) xs ++ last) (append-nil (codes ", " ++ f y)))
    ∙ sym (append_assoc (f x) (flat_map (λ z. codes ", " ++ f z) xs) (codes ", " ++ f y))

pub marks_more : (n : ℕ) → 1 ≤ n → marks (n + 1) ≡ marks n ++ codes ", ?"
marks_more zero h = absurd (omega (arith, h))
marks_more (suc n) h =
    ap (with_commas (λ mark. mark)) (sym (replicate_more (suc n) (codes "?"))) ∙ commas_more (λ mark. mark) (codes "?") (replicate n (codes "?")) (codes "?")
