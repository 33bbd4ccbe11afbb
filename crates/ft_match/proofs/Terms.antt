-- The terms of a part, token by token, and the number of a NEAR, digit by digit.
use Rattle.std.proofs.Common.{◌≡◌, ℕ, ◌+◌, ◌<◌, ◌≤◌, List, [], ◌∷◌, length, map, refl, ap, arith, ◌==◌, All, slice_index, Option, Some, None}
use Rattle.std.specs.Char.{is_ascii_digit}
use Rattle.std.specs.Str.{byte}
use Rattle.ft_match.proofs.Common.{list_all, after_first, All-head, All-tail, PlainToken, AreTokens, plain_token, PlainTerm, word, filter_on, follows_caret, terms_of, is_colon, words_after, is_digit_run, capped, nat_tests}
use Rattle.ft_match.specs.declared.text.Token.{Token}

-- the term that a token of the part is
abbrev pub term_in : List ℕ → PlainToken → PlainTerm
term_in part t = record { text = t.term; prefix = slice_index part (t.start + t.size) == byte "*"; first = follows_caret part t.start }

-- the tokens end in the part
abbrev pub AreWithin : List ℕ → List Token → Type 0
AreWithin part [] = Unit {0}
AreWithin part (t ∷ ts) = (t.start + t.size ≤ length part) × AreWithin part ts

all_within : (part : List ℕ) (ts : List Token) → All (λ t. t.start + t.size ≤ length part) (map plain_token ts) → AreWithin part ts
all_within part [] h = tt
all_within part (t ∷ ts) h =
    grind (arith, nat_tests, all_within part ts (All-tail (λ t. t.start + t.size ≤ length part) (plain_token t) (map plain_token ts) h), All-head)

pub within_part : (part : List ℕ) (ts : List Token) → AreTokens part (map plain_token ts) → AreWithin part ts
within_part part ts are = all_within part ts are.within

pub digits_are_number : (ds : List ℕ) → 0 < length ds → is_digit_run ds ≡ list_all is_ascii_digit ds
digits_are_number [] some = absurd (omega arith)
digits_are_number (d ∷ ds) some = refl

-- words and filters name no number
words_plain : (ts : List PlainTerm) → map capped (map word ts) ≡ map word ts
words_plain [] = refl
words_plain (t ∷ ts) = ap (λ ls. word t ∷ ls) (words_plain ts)

pub words_kept : (filter : Option ℕ) (chunk : List ℕ) → map capped (words_after filter chunk) ≡ words_after filter chunk
words_kept None chunk = words_plain (terms_of chunk)
words_kept (Some column) chunk = ap (λ ls. filter_on column ∷ ls) (words_plain (terms_of (after_first is_colon chunk)))
