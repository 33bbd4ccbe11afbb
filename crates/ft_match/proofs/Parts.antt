-- How the parts of what is left of a text change by one byte.
use Rattle.std.proofs.Common.{◌≡◌, ℕ, ◌+◌, ◌-◌, ◌<◌, ◌≤◌, Bool, true, false, List, [], ◌∷◌, ◌++◌, length, map, drop, get_or, refl, sym, ap, ◌∙◌, arith, append_assoc, length-drop, get_or-drop, IsUtf8, IsCharBoundary, ◌==◌, ◌&&◌, not, slice_range, flat_map}
use Rattle.std.proofs.lemmas.List.Concat.{flat_map-append}
use Rattle.ft_match.proofs.Common.{list_any, map-append, take_more, list_any-append, IsCharBoundary-start, IsCharBoundary-after_ascii, Lexeme, Part, open_part, close_part, is_query_space, parts_of, lexemes_of_part, is_unclosed_part, capped, byte_mark, chunk_parts, begun_after, parts_ended, parts_from, begun_part, ends_begun, nat_tests}
use Rattle.ft_match.proofs.TokenSteps.{rest_at}
use Rattle.ft_match.proofs.PartLaw.{mark_by, inside_ends, inside_grows, parts_by_bytes}

-- the bytes from start to before the next place
pub range_more : (text : List ℕ) (start place : ℕ) → start ≤ place → place < length text
    → slice_range text start (place + 1) ≡ slice_range text start place ++ get_or text place 0 ∷ []
range_more text start place before h =
    grind (arith, nat_tests, length-drop start text, take_more (drop start text) (place - start) 0 (omega (arith, length-drop start text)), get_or-drop)

pub range_empty : (text : List ℕ) (place : ℕ) → slice_range text place place ≡ []
range_empty text place = grind arith

-- ---- one byte that ends what is begun

-- what is begun after a byte that ends something is empty, and a quoted part only after a quote
-- that ends a chunk
after_by : (q : Bool) (bytes : List ℕ) (b : ℕ) (is_quote is_open is_close is_query_space : Bool)
    → ends_begun q (mark_by is_quote is_open is_close is_query_space) ≡ true
    → begun_after (begun_part q bytes) (mark_by is_quote is_open is_close is_query_space) b ≡ begun_part (not q && is_quote) []
after_by true bytes b true is_open is_close is_query_space e = refl
after_by true bytes b false true is_close is_query_space e = cc
after_by true bytes b false false true is_query_space e = cc
after_by true bytes b false false false true e = cc
after_by true bytes b false false false false e = cc
after_by false bytes b true is_open is_close is_query_space e = refl
after_by false bytes b false true is_close is_query_space e = refl
after_by false bytes b false false true is_query_space e = refl
after_by false bytes b false false false true e = refl
after_by false bytes b false false false false e = cc

ends_after : (q : Bool) (bytes : List ℕ) (b : ℕ) → ends_begun q (byte_mark b) ≡ true
    → begun_after (begun_part q bytes) (byte_mark b) b ≡ begun_part (not q && b == 34) []
ends_after q bytes b e = after_by q bytes b (b == 34) (b == 40) (b == 41) (is_query_space b) e

chunk_closed : (bytes : List ℕ) → list_any is_unclosed_part (chunk_parts bytes) ≡ false
chunk_closed [] = refl
chunk_closed (b ∷ bytes) = refl

chunk_then_closed : (bytes : List ℕ) (part : Part) → is_unclosed_part part ≡ false → list_any is_unclosed_part (chunk_parts bytes ++ part ∷ []) ≡ false
chunk_then_closed [] part e = rw e refl
chunk_then_closed (b ∷ bytes) part e = rw e refl

closed_by : (q : Bool) (bytes : List ℕ) (is_quote is_open is_close is_query_space : Bool)
    → list_any is_unclosed_part (parts_ended (begun_part q bytes) (mark_by is_quote is_open is_close is_query_space)) ≡ false
closed_by true bytes true is_open is_close is_query_space = refl
closed_by true bytes false true is_close is_query_space = refl
closed_by true bytes false false true is_query_space = refl
closed_by true bytes false false false true = refl
closed_by true bytes false false false false = refl
closed_by false bytes true is_open is_close is_query_space = chunk_closed bytes
closed_by false bytes false true is_close is_query_space = chunk_then_closed bytes open_part refl
closed_by false bytes false false true is_query_space = chunk_then_closed bytes close_part refl
closed_by false bytes false false false true = chunk_closed bytes
closed_by false bytes false false false false = refl

-- no part that a byte ends is an unclosed quote
ended_closed : (q : Bool) (bytes : List ℕ) (b : ℕ) → list_any is_unclosed_part (parts_ended (begun_part q bytes) (byte_mark b)) ≡ false
ended_closed q bytes b = closed_by q bytes (b == 34) (b == 40) (b == 41) (is_query_space b)

pub ends_ascii : (q : Bool) (b : ℕ) → ends_begun q (byte_mark b) ≡ true → b < 128
ends_ascii q b ends = grind arith

-- ---- what is left of a text

-- the parts that end in what is left of the text from place on, where a quoted part or a chunk
-- began at start
abbrev pub parts_left : List ℕ → Bool → ℕ → ℕ → List Part
parts_left text q start place = parts_from (begun_part q (slice_range text start place)) (drop place text)

left_inside : (text : List ℕ) (q : Bool) (start place : ℕ) → start ≤ place → place < length text → ends_begun q (byte_mark (get_or text place 0)) ≡ false
    → parts_left text q start place ≡ parts_left text q start (place + 1)
left_inside text q start place before h e = grind (arith, nat_tests, get_or text place 0, rest_at, inside_ends, inside_grows, range_more)

left_ended : (text : List ℕ) (q : Bool) (start place : ℕ) → place < length text → ends_begun q (byte_mark (get_or text place 0)) ≡ true
    → parts_left text q start place
    ≡ parts_ended (begun_part q (slice_range text start place)) (byte_mark (get_or text place 0)) ++ parts_left text (not q && get_or text place 0 == 34) (place + 1)
    (place + 1)
left_ended text q start place h e = simp (rest_at text place h, ends_after q (slice_range text start place) (get_or text place 0) e, range_empty)

-- the lexemes of some parts, as the parser holds them
abbrev pub held : List (List ℕ) → List Part → List Lexeme
held columns parts = map capped (flat_map (lexemes_of_part columns) parts)

held-append : (columns : List (List ℕ)) (xs ys : List Part) → held columns (xs ++ ys) ≡ held columns xs ++ held columns ys
held-append columns xs ys = simp (flat_map-append, map-append)

-- Before place these lexemes ended, and a quoted part or a chunk began at start: they and those of
-- what is left are the text's.
pub record Lexed (columns : List (List ℕ)) (text : List ℕ) (found : List Lexeme) (q : Bool) (start place : ℕ) : Type 0 where
  pub before : start ≤ place
  pub cut : IsCharBoundary text start
  pub told : found ++ held columns (parts_left text q start place) ≡ held columns (parts_of text)
  pub open_left : list_any is_unclosed_part (parts_left text q start place) ≡ list_any is_unclosed_part (parts_of text)

pub lexed_none : (columns : List (List ℕ)) (text : List ℕ) → IsUtf8 text → Lexed columns text [] false 0 0
lexed_none columns text utf8 = record {
  before = omega arith;
  cut = IsCharBoundary-start text utf8;
  told = ap (held columns) (parts_by_bytes text);
  open_left = ap (list_any is_unclosed_part) (parts_by_bytes text);
}

pub lexed_inside : {columns : List (List ℕ)} {text : List ℕ} {found : List Lexeme} {q : Bool} {start place : ℕ} → Lexed columns text found q start place
    → place < length text → ends_begun q (byte_mark (get_or text place 0)) ≡ false → Lexed columns text found q start (place + 1)
lexed_inside {columns} {text} {found} {q} {start} {place} so_far h e =
    let same = left_inside text q start place so_far.before h e in
    record {
      before = omega (arith, so_far.before);
      cut = so_far.cut;
      told = ap (λ parts. found ++ held columns parts) (sym same) ∙ so_far.told;
      open_left = ap (list_any is_unclosed_part) (sym same) ∙ so_far.open_left;
    }

pub lexed_ended : {columns : List (List ℕ)} {text : List ℕ} {found found' : List Lexeme} {q : Bool} {start place : ℕ}
    → Lexed columns text found q start place → IsUtf8 text
    → place < length text → ends_begun q (byte_mark (get_or text place 0)) ≡ true
    → found' ≡ found ++ held columns (parts_ended (begun_part q (slice_range text start place)) (byte_mark (get_or text place 0)))
    → Lexed columns text found' (not q && get_or text place 0 == 34) (place + 1) (place + 1)
lexed_ended {columns} {text} {found} {found'} {q} {start} {place} so_far utf8 h e grown =
    let b = get_or text place 0 in
    let ended = parts_ended (begun_part q (slice_range text start place)) (byte_mark b) in
    let rest = parts_left text (not q && b == 34) (place + 1) (place + 1) in
    let split = left_ended text q start place h e in
    record {
      before = omega arith;
      cut = IsCharBoundary-after_ascii text place utf8 h (ends_ascii q b e);
      told = rw (grown, append_assoc) (rw (split, held-append columns ended rest) at so_far.told);
      open_left = rw (split, list_any-append is_unclosed_part ended rest, ended_closed q (slice_range text start place) b) at so_far.open_left;
    }

-- ---- the same as the loop over the text's bytes meets it

pub step_inside : {columns : List (List ℕ)} {text bytes : List ℕ} {found found' : List Lexeme} {q q' : Bool} {start start' place : ℕ}
    → Lexed columns text found q start place
    → bytes ≡ text → place < length bytes → ends_begun q (byte_mark (get_or bytes place 0)) ≡ false → found' ≡ found → q' ≡ q → start' ≡ start
    → Lexed columns text found' q' start' (place + 1)
step_inside {columns} {text} {bytes} {found} {found'} {q} {q'} {start} {start'} {place} so_far is_text h e same_found same_q same_start =
    rw (same_found, same_q, same_start) (lexed_inside so_far (rw is_text at h) (rw is_text at e))

pub step_ended : {columns : List (List ℕ)} {text bytes part : List ℕ} {found found' : List Lexeme} {q q' : Bool} {start start' place : ℕ}
    → Lexed columns text found q start place → IsUtf8 text
    → bytes ≡ text → place < length bytes → ends_begun q (byte_mark (get_or bytes place 0)) ≡ true → part ≡ slice_range text start place
    → found' ≡ found ++ held columns (parts_ended (begun_part q part) (byte_mark (get_or bytes place 0)))
    → q' ≡ (not q && get_or bytes place 0 == 34) → start' ≡ place + 1
    → Lexed columns text found' q' start' (place + 1)
step_ended {columns} {text} {bytes} {part} {found} {found'} {q} {q'} {start} {start'} {place} so_far utf8 is_text h e cut grown is_q is_start =
    rw (is_q, is_start, is_text) (lexed_ended so_far utf8 (rw is_text at h) (rw is_text at e) (rw (cut, is_text) at grown))
