-- The tests say of the lexemes as the parser holds them what they say of the text's, and where no
-- number is too great they are the text's.
use Rattle.std.proofs.Common.{◌≡◌, ℕ, ◌<◌, ◌≤◌, Bool, true, false, cond, List, [], ◌∷◌, length, map, refl, arith, ◌||◌, ◌==◌, nat_lt, min, sum_by, Option, Some, None, Err}
use Rattle.ft_match.proofs.Common.{list_any, or_parts, or_from, nat_tests, sum_by-cons, QueryFault, Malformed, TooLarge, Lexeme, near_word, parts_of, lexemes_of, is_unclosed_part, term_count, is_far, open_after, nests_deep, query_unless, capped, asks_much, query_within, query_of}

-- ---- one lexeme

count_capped : (l : Lexeme) → term_count (capped l) ≡ term_count l
count_capped (near_word most) = refl
count_capped _ = refl

number_capped : (most : ℕ) → nat_lt 1000000 (min most 1000001) ≡ nat_lt 1000000 most
number_capped most = grind (arith, nat_tests)

far_capped : (l : Lexeme) → is_far (capped l) ≡ is_far l
far_capped (near_word most) = number_capped most
far_capped _ = refl

depth_capped : (l : Lexeme) (n : ℕ × ℕ) → open_after (capped l) n ≡ open_after l n
depth_capped (near_word most) n = refl
depth_capped _ n = refl

-- ---- all lexemes

counts_capped : (ls : List Lexeme) → sum_by term_count (map capped ls) ≡ sum_by term_count ls
counts_capped [] = refl
counts_capped (l ∷ ls) = simp (sum_by-cons, count_capped, counts_capped ls)

fars_capped : (ls : List Lexeme) → list_any is_far (map capped ls) ≡ list_any is_far ls
fars_capped [] = refl
fars_capped (l ∷ ls) = simp (far_capped, fars_capped ls)

depths_capped : (ls : List Lexeme) (n : ℕ × ℕ) → nests_deep n (map capped ls) ≡ nests_deep n ls
depths_capped [] n = refl
depths_capped (l ∷ ls) n = simp (depth_capped, depths_capped ls)

kept : (ls : List Lexeme) → list_any is_far ls ≡ false → map capped ls ≡ ls
kept [] near = refl
kept (l ∷ ls) near = grind (arith, kept ls (or_parts (is_far l) (list_any is_far ls) near).1)

-- ---- the tests of a text

much_capped : (ls : List Lexeme) → asks_much (map capped ls) ≡ asks_much ls
much_capped ls = simp (counts_capped, fars_capped, depths_capped)

abbrev fault_by : Bool → Bool → Bool → Option QueryFault
fault_by long broken much = cond long (Some TooLarge) (cond broken (Some Malformed) (cond much (Some TooLarge) None))

abbrev is_long : List ℕ → Bool
is_long text = nat_lt 10000 (length text)

abbrev is_broken : List ℕ → Bool
is_broken text = list_any is_unclosed_part (parts_of text) || list_any (λ b. b == 0) text

answer_by : (columns : List (List ℕ)) (default : Option ℕ) (text : List ℕ) (long broken much : Bool) → is_long text ≡ long → is_broken text ≡ broken
    → asks_much (lexemes_of columns text) ≡ much
    → query_of columns default text ≡ query_unless (fault_by long broken much) default (lexemes_of columns text)
unfolding query_of
answer_by columns default text long broken much e f g = rw (e, f, g) refl

pub long_is_large : (columns : List (List ℕ)) (default : Option ℕ) (text : List ℕ) → 10000 < length text → query_of columns default text ≡ Err TooLarge
long_is_large columns default text long = grind (arith, nat_tests, answer_by)

pub broken_is_malformed : (columns : List (List ℕ)) (default : Option ℕ) (text : List ℕ) → length text ≤ 10000 → is_broken text ≡ true
    → query_of columns default text ≡ Err Malformed
broken_is_malformed columns default text short broken = grind (arith, nat_tests, answer_by)

pub zero_is_malformed : (columns : List (List ℕ)) (default : Option ℕ) (text : List ℕ) → length text ≤ 10000 → list_any (λ b. b == 0) text ≡ true
    → query_of columns default text ≡ Err Malformed
zero_is_malformed columns default text short zero = grind (arith, nat_tests, broken_is_malformed columns default text short)

pub open_is_malformed : (columns : List (List ℕ)) (default : Option ℕ) (text : List ℕ) → length text ≤ 10000 → list_any is_unclosed_part (parts_of text) ≡ true
    → query_of columns default text ≡ Err Malformed
open_is_malformed columns default text short unclosed = grind (arith, nat_tests, broken_is_malformed columns default text short)

-- the lexemes as the parser holds them read as the text does
pub read_within : (columns : List (List ℕ)) (default : Option ℕ) (text : List ℕ) (found : List Lexeme) → length text ≤ 10000
    → list_any (λ b. b == 0) text ≡ false
    → (list_any is_unclosed_part (parts_of text) ≡ false) × (found ≡ map capped (lexemes_of columns text))
    → query_within default found ≡ query_of columns default text
read_within columns default text found short no_zero lexed = grind (arith, nat_tests, or_from, much_capped, answer_by, or_parts, kept)
