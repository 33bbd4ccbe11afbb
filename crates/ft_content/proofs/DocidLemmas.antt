-- The docid of a document that is given none.
use Rattle.std.proofs.Common.{◌≡◌, ◌^◌, ◌-◌, Bool, true, false, cond, [], ◌∷◌, Option, Some, None, ℤ, pos, refl, ap, arith, ◌+ℤ◌, FitsSigned}
use Rattle.std.proofs.lemmas.Int.{ints}
use Rattle.ft_content.proofs.Common.{w64, SomeIff, int_eq, Decides-int_eq, Documents, next_docid, last_docid}

-- the docid after the last one, if there is one
abbrev pub next_after : Option ℤ → Option ℤ
next_after None = Some (pos 1)
next_after (Some n) = cond (int_eq n (pos (2 ^ 63 - 1))) None (Some (n +ℤ pos 1))

pub next_is : (documents : Documents) → next_docid documents ≡ next_after (last_docid documents)
next_is [] = refl
next_is (d ∷ []) = refl
next_is (d ∷ e ∷ documents) = next_is (e ∷ documents)

-- one more, where that is a docid
pub stepped : (d : ℤ) (r : Option ℤ) → FitsSigned w64 d → SomeIff r (FitsSigned w64 (d +ℤ pos 1)) (d +ℤ pos 1) → r ≡ next_after (Some d)
stepped d None fits refused = at_end (int_eq d (pos (2 ^ 63 - 1))) refl
  where
    at_end : (b : Bool) → int_eq d (pos (2 ^ 63 - 1)) ≡ b → None ≡ cond b None (Some (d +ℤ pos 1))
    at_end true e = refl
    at_end false e =
        let other : d ≡ pos (2 ^ 63 - 1) → ⊥ = λ same. let is = (Decides-int_eq d (pos (2 ^ 63 - 1))).1 same in cc in
        absurd (refused (omega (arith, ints)))
stepped d (Some x) fits (more, same) = before_end (int_eq d (pos (2 ^ 63 - 1))) refl
  where
    before_end : (b : Bool) → int_eq d (pos (2 ^ 63 - 1)) ≡ b → Some x ≡ cond b None (Some (d +ℤ pos 1))
    before_end true e = let is : d ≡ pos (2 ^ 63 - 1) = (Decides-int_eq d (pos (2 ^ 63 - 1))).0 e in absurd (omega (arith, ints))
    before_end false e = ap Some same
