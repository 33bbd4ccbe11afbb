-- Quotation marks of a text are doubled character by character.
use Rattle.std.proofs.Common.{◌≡◌, refl, sym, ap, ◌∙◌, ℕ, suc, ◌<◌, ◌≤◌, arith, Bool, true, false, List, [], ◌∷◌, ◌++◌, length, codes, get_or}
use Rattle.std.specs.Prelude.{◌==◌, if◌then◌else◌, encode_utf8}
use Rattle.std.specs.List.{flat_map}
use Rattle.std.proofs.lemmas.Bool.{ltb-true, ltb-false}
use Rattle.std.proofs.Math.Dec.{ltb}
use Rattle.std.proofs.lemmas.Bool.Decides.{nat_tests}
use Rattle.std.proofs.lemmas.List.{append_assoc, append-nil}
use Rattle.std.proofs.lemmas.List.Concat.{flat_map-append}
use Rattle.std.proofs.lemmas.Str.{encode_ascii, inside_one}
use Rattle.shell_text.specs.Print.{quoted_byte}

abbrev pub quoted_char : ℕ → List ℕ
quoted_char c = if c == 0x27 then codes "''" else encode_utf8 c

-- no byte is a quotation mark
abbrev IsPlain : List ℕ → Type 0
IsPlain bytes = (k : ℕ) → k < length bytes → 128 ≤ get_or bytes k 0

plain_byte : (b : ℕ) → 128 ≤ b → quoted_byte b ≡ b ∷ []
plain_byte b h = let other : b == 0x27 ≡ false = grind (arith, nat_tests) in ap (λ t. if t then codes "''" else b ∷ []) other

plain_bytes : (bytes : List ℕ) → IsPlain bytes → flat_map quoted_byte bytes ≡ bytes
plain_bytes [] h = refl
plain_bytes (b ∷ bytes) h =
    ap (λ q. q ++ flat_map quoted_byte bytes) (plain_byte b (h 0 (omega arith)))
    ∙ ap (λ bs. b ∷ bs) (plain_bytes bytes (λ k within. h (suc k) (omega arith)))

high_by : (b c : ℕ) (low : Bool) → ltb b 128 ≡ low → 128 ≤ c → (b < 128 → c ≡ b) → 128 ≤ b
high_by b c true e h f = let small : b < 128 = ltb-true b 128 e in let same : c ≡ b = f small in omega arith
high_by b c false e h f = ltb-false b 128 e

wide_bytes : (c : ℕ) → 128 ≤ c → IsPlain (encode_utf8 c)
wide_bytes c h k within =
    high_by (get_or (encode_utf8 c) k 0) c (ltb (get_or (encode_utf8 c) k 0) 128) refl h (λ low. inside_one c [] (encode_utf8 c) k (sym (append-nil (encode_utf8 c))) within low)

neq-eqb : (a b : ℕ) → (a ≡ b → ⊥) → a == b ≡ false
neq-eqb a b h = grind (arith, nat_tests)

pub twice : (old made : List ℕ) (c : ℕ) → c ≡ 0x27 → made ≡ old ++ encode_utf8 0x27 → made ++ encode_utf8 c ≡ old ++ quoted_char c
twice old made c e f =
    ap (λ d. made ++ encode_utf8 d) e ∙ ap (λ m. m ++ encode_utf8 0x27) f ∙ append_assoc old (encode_utf8 0x27) (encode_utf8 0x27)
    ∙ ap (λ q. old ++ (q ++ q)) (encode_ascii 0x27 (omega arith)) ∙ sym (ap (λ d. old ++ quoted_char d) e)

pub once : (old made : List ℕ) (c : ℕ) → (c ≡ 0x27 → ⊥) → made ≡ old → made ++ encode_utf8 c ≡ old ++ quoted_char c
once old made c h f =
    let other : c == 0x27 ≡ false = neq-eqb c 0x27 h in
    ap (λ m. m ++ encode_utf8 c) f ∙ sym (ap (λ t. old ++ (if t then codes "''" else encode_utf8 c)) other)

pub quoted-encode : (c : ℕ) → flat_map quoted_byte (encode_utf8 c) ≡ quoted_char c
quoted-encode c = by_size (ltb c 128) refl
  where
    wide : 128 ≤ c → flat_map quoted_byte (encode_utf8 c) ≡ quoted_char c
    wide h = let other : c == 0x27 ≡ false = grind (arith, nat_tests) in plain_bytes (encode_utf8 c) (wide_bytes c h) ∙ sym (ap (λ t. if t then codes "''" else encode_utf8 c) other)

    small : c < 128 → flat_map quoted_byte (encode_utf8 c) ≡ quoted_char c
    small h = ap (flat_map quoted_byte) (encode_ascii c h) ∙ append-nil (quoted_byte c) ∙ sym (ap (λ bs. if c == 0x27 then codes "''" else bs) (encode_ascii c h))

    by_size : (b : Bool) → ltb c 128 ≡ b → flat_map quoted_byte (encode_utf8 c) ≡ quoted_char c
    by_size true e = small (ltb-true c 128 e)
    by_size false e = wide (ltb-false c 128 e)

pub quoted-step : (made rest left : List ℕ) (c : ℕ) (whole : List ℕ) → rest ≡ encode_utf8 c ++ left → made ++ flat_map quoted_byte rest ≡ whole → (made ++ quoted_char c) ++ flat_map quoted_byte left ≡ whole
quoted-step made rest left c whole e h =
    append_assoc made (quoted_char c) (flat_map quoted_byte left)
    ∙ ap (λ q. made ++ (q ++ flat_map quoted_byte left)) (sym (quoted-encode c))
    ∙ ap (λ q. made ++ q) (sym (flat_map-append quoted_byte (encode_utf8 c) left))
    ∙ ap (λ bs. made ++ flat_map quoted_byte bs) (sym e) ∙ h
