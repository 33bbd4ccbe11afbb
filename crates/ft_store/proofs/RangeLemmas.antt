-- The texts that begin so are a range.
use Rattle.std.proofs.Common.{◌≡◌, ℕ, ◌+◌, ◌/◌, ◌%◌, ◌<◌, Bool, true, false, ◌&&◌, cond, List, [], ◌∷◌, ◌++◌, length, encode_utf8, encode_utf8_all, IsUtf8, refl, sym, ap, subst, ◌∙◌, Ordering, Less, Equal, Greater, is_lt, is_le, arith, true≢false, eq-eqb, ltb, T, inl, inr, ltb→lt, mod-lt, nat_eq, nat_cmp}
use Rattle.ft_store.proofs.Common.{all_scalars, AllByRecursion, starts_with, ordering_then, ordering_reverse, nat_tests, nat_cmp_total, ranked}
use Rattle.ft_store.proofs.Common.{all-append, bound_value}
use lib.Utf8.{scalar, scalar_cases}
use Rattle.std.specs.Cmp.Lexicographic.{slice_cmp}
use Rattle.ft_store.specs.Range.{after_last, limit_of}

abbrev below : List ℕ → List ℕ → Bool
below a b = is_lt (slice_cmp nat_cmp a b)

abbrev at_most : List ℕ → List ℕ → Bool
at_most a b = is_le (slice_cmp nat_cmp a b)

less_apart : (b c : ℕ) → nat_cmp b c ≡ Less → nat_eq b c ≡ false
less_apart b c h = grind (arith, nat_tests)

greater_apart : (b c : ℕ) → nat_cmp b c ≡ Greater → nat_eq b c ≡ false
greater_apart b c h = grind (arith, nat_tests)

past : (b c : ℕ) → nat_cmp b c ≡ Less → is_lt (nat_cmp c (b + 1)) ≡ false
past b c h = grind (arith, nat_tests)

next_below : (b : ℕ) → nat_cmp b (b + 1) ≡ Less
next_below b = grind (arith, nat_tests)

not_below_none : (t : List ℕ) → below t [] ≡ false
not_below_none [] = refl
not_below_none (x ∷ t) = refl

none_at_most : (t : List ℕ) → at_most [] t ≡ true
none_at_most [] = refl
none_at_most (x ∷ t) = refl

both_not_less : (o u : Ordering) → is_lt o ≡ false → is_lt u ≡ false → is_lt (ordering_then o u) ≡ false
both_not_less Less u p q = p
both_not_less Equal u p q = q
both_not_less Greater u p q = refl

and_false : (b : Bool) → (b && false) ≡ false
and_false true = refl
and_false false = refl

turn : (b c : ℕ) (o : Ordering) → nat_cmp b c ≡ o → nat_cmp c b ≡ ordering_reverse o
turn b c o h = nat_cmp_total.antisymm c b ∙ ap ordering_reverse h

-- by cases, as `starts_with` tests it
abbrev begins : List ℕ → List ℕ → Bool
begins [] text = true
begins (b ∷ more) [] = false
begins (b ∷ more) (c ∷ text) = nat_eq b c && begins more text

starts_is : (needle text : List ℕ) → starts_with nat_eq text needle ≡ begins needle text
starts_is [] text = refl
starts_is (b ∷ more) [] = refl
starts_is (b ∷ more) (c ∷ text) = ap (λ t. nat_eq b c && t) (starts_is more text)

by_begins : (b : ℕ) (more text : List ℕ) → (at_most (b ∷ more) text && below text (after_last (b ∷ more))) ≡ begins (b ∷ more) text
by_begins b more [] = refl
by_begins b [] (c ∷ text) = go (nat_cmp b c) refl
  where
    go : (o : Ordering) → nat_cmp b c ≡ o → (is_le (ordering_then (nat_cmp b c) (slice_cmp nat_cmp [] text)) && is_lt (ordering_then (nat_cmp c (b + 1)) (slice_cmp nat_cmp text []))) ≡ (nat_eq b c && true)
    go Less e = rw (less_apart b c e, both_not_less _ _ (past b c e) (not_below_none text)) (and_false _)
    go Equal e = let same : b ≡ c = ranked b c Equal (sym e) in rw (e, none_at_most text, ← same, next_below b, eq-eqb b b refl) refl
    go Greater e = rw (e, greater_apart b c e) refl
by_begins b (d ∷ more) (c ∷ text) = go (nat_cmp b c) refl (by_begins d more text)
  where
    go : (o : Ordering) → nat_cmp b c ≡ o → (at_most (d ∷ more) text && below text (after_last (d ∷ more))) ≡ begins (d ∷ more) text
        → (is_le (ordering_then (nat_cmp b c) (slice_cmp nat_cmp (d ∷ more) text)) && is_lt (ordering_then (nat_cmp c b) (slice_cmp nat_cmp text (after_last (d ∷ more))))) ≡ (nat_eq b c && begins (d ∷ more) text)
    go Less e deep = rw (e, turn b c Less e, less_apart b c e) refl
    go Equal e deep = let same : b ≡ c = ranked b c Equal (sym e) in rw (e, turn b c Equal e, eq-eqb b c same) deep
    go Greater e deep = rw (e, greater_apart b c e) refl

-- a text is below what ends the texts that begin so
abbrev pub is_under : List ℕ → List ℕ → Bool
is_under text [] = true
is_under text (b ∷ more) = below text (after_last (b ∷ more))

pub in_range : (from text : List ℕ) → (at_most from text && is_under text from) ≡ starts_with nat_eq text from
in_range [] [] = refl
in_range [] (t ∷ text) = refl
in_range (b ∷ more) text = by_begins b more text ∙ sym (starts_is (b ∷ more) text)

-- ---- the last byte is raised

pub after_last-end : (front : List ℕ) (b : ℕ) → after_last (front ++ b ∷ []) ≡ front ++ (b + 1) ∷ []
after_last-end [] b = refl
after_last-end (x ∷ []) b = refl
after_last-end (x ∷ y ∷ front) b = ap (λ l. x ∷ l) (after_last-end (y ∷ front) b)

next_low : (b : ℕ) → 128 + b % 64 < 255
next_low b = omega (arith, mod-lt b (lit_pos 64))
  where
    lit_pos : (n : ℕ) → 0 < 64
    lit_pos n = omega arith

four_bytes : (c : ℕ) → c < 1114112 → 240 + c / 262144 < 255
four_bytes c h = omega arith

three_bytes : (c : ℕ) → c < 65536 → 224 + c / 4096 < 255
three_bytes c h = omega arith

two_bytes : (c : ℕ) → c < 2048 → 192 + c / 64 < 255
two_bytes c h = omega arith

less : (m n : ℕ) → ltb m n ≡ true → m < n
less m n e = ltb→lt m n (subst T (sym e) tt)

low_bytes : (c : ℕ) → c < 1114112 → AllByRecursion (λ b. b < 255) (encode_utf8 c)
unfolding lib.Utf8.encode
low_bytes c h = one (ltb c 128) refl
  where
    three : (p : Bool) → ltb c 65536 ≡ p → AllByRecursion (λ b. b < 255) (cond p ((224 + c / 4096) ∷ (128 + c / 64 % 64) ∷ (128 + c % 64) ∷ []) ((240 + c / 262144) ∷ (128 + c / 4096 % 64) ∷ (128 + c / 64 % 64) ∷ (128 + c % 64) ∷ []))
    three true e = (three_bytes c (less c 65536 e), (next_low (c / 64), (next_low c, tt)))
    three false e = (four_bytes c h, (next_low (c / 4096), (next_low (c / 64), (next_low c, tt))))

    two : (p : Bool) → ltb c 2048 ≡ p → AllByRecursion (λ b. b < 255) (cond p ((192 + c / 64) ∷ (128 + c % 64) ∷ []) (cond (ltb c 65536) ((224 + c / 4096) ∷ (128 + c / 64 % 64) ∷ (128 + c % 64) ∷ []) ((240 + c / 262144) ∷ (128 + c / 4096 % 64) ∷ (128 + c / 64 % 64) ∷ (128 + c % 64) ∷ [])))
    two true e = (two_bytes c (less c 2048 e), (next_low c, tt))
    two false e = three (ltb c 65536) refl

    one : (p : Bool) → ltb c 128 ≡ p → AllByRecursion (λ b. b < 255) (cond p (c ∷ []) (cond (ltb c 2048) ((192 + c / 64) ∷ (128 + c % 64) ∷ []) (cond (ltb c 65536) ((224 + c / 4096) ∷ (128 + c / 64 % 64) ∷ (128 + c % 64) ∷ []) ((240 + c / 262144) ∷ (128 + c / 4096 % 64) ∷ (128 + c / 64 % 64) ∷ (128 + c % 64) ∷ []))))
    one true e = (omega (arith, less c 128 e), tt)
    one false e = two (ltb c 2048) refl

scalar_below : (c : ℕ) → scalar c ≡ true → c < 1114112
scalar_below c h = elim (scalar_cases c h) [ inl low ↦ omega (arith, low) | inr high ↦ high.1 ]

all_low : (cs : List ℕ) → all_scalars cs ≡ true → AllByRecursion (λ b. b < 255) (encode_utf8_all cs)
all_low [] h = tt
all_low (c ∷ cs) h = all-append (λ b. b < 255) (encode_utf8 c) (encode_utf8_all cs) (low_bytes c (scalar_below c (both_first _ _ h))) (all_low cs (both_second _ _ h))
  where
    both_first : (a b : Bool) → (a && b) ≡ true → a ≡ true
    both_first true b h = refl
    both_first false b h = h

    both_second : (a b : Bool) → (a && b) ≡ true → b ≡ true
    both_second true b h = h
    both_second false b h = absurd (true≢false (sym h))

-- no byte of UTF-8 is 255
pub below_255 : (text : List ℕ) → IsUtf8 text → AllByRecursion (λ b. b < 255) text
below_255 text h = subst (AllByRecursion (λ b. b < 255)) h.1.1 (all_low h.0 h.1.0)

pub none_of : (xs : List ℕ) → length xs ≡ 0 → xs ≡ []
none_of [] h = refl
none_of (x ∷ xs) h = absurd (omega (arith, h))

-- what ends a range is bound as it is
pub bound_limit : (end : List ℕ) → bound_value (limit_of end) ≡ limit_of end
bound_limit [] = refl
bound_limit (b ∷ more) = refl
