-- The bytes of a character are eligible as it is.
use Rattle.std.proofs.Common.{◌≡◌, ℕ, ◌<◌, ◌≤◌, true, [], get_or, refl, sym, ◌∙◌, subst, arith, ⊎_elim, append-nil, All, encode_utf8}
use Rattle.ft_match.proofs.Common.{nat_tests, All-from_get_or, All-cons, All-nil, encode_ascii, inside_one, order, is_eligible}

late_eligible : (b : ℕ) → 128 ≤ b → is_eligible b ≡ true
late_eligible b late = grind (arith, nat_tests)

pub same_kind : (c : ℕ) → All (λ b. is_eligible b ≡ is_eligible c) (encode_utf8 c)
same_kind c = ⊎_elim
    (λ (early : c < 128). subst (All (λ b. is_eligible b ≡ is_eligible c)) (sym (encode_ascii c early))
    (All-cons (λ b. is_eligible b ≡ is_eligible c) c [] refl (All-nil (λ b. is_eligible b ≡ is_eligible c))))
    (λ (late : 128 ≤ c). All-from_get_or (λ b. is_eligible b ≡ is_eligible c) (encode_utf8 c) 0 (λ k inside. ⊎_elim
    (λ (small : get_or (encode_utf8 c) k 0 < 128). let same = inside_one c [] (encode_utf8 c) k (sym (append-nil (encode_utf8 c))) inside small in absurd
    (omega arith))
    (λ (large : 128 ≤ get_or (encode_utf8 c) k 0). late_eligible _ large ∙ sym (late_eligible c late))
    (order (get_or (encode_utf8 c) k 0) 128)))
    (order c 128)
