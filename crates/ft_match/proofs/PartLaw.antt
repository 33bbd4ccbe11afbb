-- The computed parts of a text are its one reading by forms, and those that are found byte by byte.
use Rattle.std.proofs.Common.{◌≡◌, ℕ, zero, suc, ◌+◌, ◌<◌, ◌≤◌, Bool, true, false, cond, List, [], ◌∷◌, ◌++◌, length, drop, get_or, refl, sym, ap, ◌∙◌, subst, arith, append_assoc, append-nil, length-drop, take-append-drop, ◌==◌, ◌||◌, not, All, eqb-true, ltb-true, rules}
use Rattle.ft_match.proofs.Common.{list_any, AllByRecursion, position_or_len, before_first, after_first, common_steps, All-nil, All-cons, recursion_from_All, split_at_first, fails_before_first, passes_at_first, Part, open_part, close_part, quoted_part, chunk_part, unclosed_part, is_query_space, is_quote, stops_chunk, ends_chunk, IsPart, opens, closes, in_quotes, not_closed, longest_run, AreParts, no_part, white_space, next_part, parts_within, parts_of, ByteMark, quote, paren, space, plain, byte_mark, in_chunk, in_quote, begun_after, parts_ended, parts_from, begun_part, ends_begun}
use Rattle.ft_match.proofs.Filters.{any_place}

-- a byte has its mark by four tests
abbrev pub mark_by : Bool → Bool → Bool → Bool → ByteMark
mark_by is_quote is_open is_close is_query_space = cond is_quote quote (cond is_open (paren open_part) (cond is_close (paren close_part) (cond is_query_space space plain)))

-- ---- bytes that end nothing

pub inside_ends : (q : Bool) (bytes : List ℕ) (m : ByteMark) → ends_begun q m ≡ false → parts_ended (begun_part q bytes) m ≡ []
inside_ends true bytes quote e = cc
inside_ends true bytes _ e = refl
inside_ends false bytes plain e = refl
inside_ends false bytes _ e = cc

pub inside_grows : (q : Bool) (bytes : List ℕ) (m : ByteMark) (b : ℕ) → ends_begun q m ≡ false
    → begun_after (begun_part q bytes) m b ≡ begun_part q (bytes ++ b ∷ [])
inside_grows true bytes quote b e = cc
inside_grows true bytes _ b e = refl
inside_grows false bytes plain b e = refl
inside_grows false bytes _ b e = cc

inside_on : (q : Bool) (bytes more rest : List ℕ) → AllByRecursion (λ b. ends_begun q (byte_mark b) ≡ false) more
    → parts_from (begun_part q bytes) (more ++ rest) ≡ parts_from (begun_part q (bytes ++ more)) rest
inside_on q bytes [] rest none = ap (λ bs. parts_from (begun_part q bs) rest) (sym (append-nil bytes))
inside_on q bytes (b ∷ more) rest none = search (rules, byte_mark b, inside_on q (bytes ++ b ∷ []) more rest none.1, append_assoc, inside_ends, inside_grows)

-- ---- which bytes end a chunk or a quoted part

chunk_by : (q o c s : Bool) → ends_begun false (mark_by q o c s) ≡ (q || (o || (c || s)))
chunk_by true o c s = refl
chunk_by false true c s = refl
chunk_by false false true s = refl
chunk_by false false false true = refl
chunk_by false false false false = refl

quote_by : (q o c s : Bool) → ends_begun true (mark_by q o c s) ≡ q
quote_by true o c s = refl
quote_by false true c s = refl
quote_by false false true s = refl
quote_by false false false true = refl
quote_by false false false false = refl

ends_bytes : (b : ℕ) → ends_begun false (byte_mark b) ≡ stops_chunk b
ends_bytes b = chunk_by (b == 34) (b == 40) (b == 41) (is_query_space b)

ends_quote : (b : ℕ) → ends_begun true (byte_mark b) ≡ is_quote b
ends_quote b = quote_by (b == 34) (b == 40) (b == 41) (is_query_space b)

in_run : (bytes : List ℕ) → AllByRecursion (λ b. stops_chunk b ≡ false) bytes → AllByRecursion (λ b. ends_begun false (byte_mark b) ≡ false) bytes
in_run [] none = tt
in_run (b ∷ bytes) none = (ends_bytes b ∙ none.0, in_run bytes none.1)

between_quotes : (bytes : List ℕ) → AllByRecursion (λ b. is_quote b ≡ false) bytes → AllByRecursion (λ b. ends_begun true (byte_mark b) ≡ false) bytes
between_quotes [] none = tt
between_quotes (b ∷ bytes) none = (ends_quote b ∙ none.0, between_quotes bytes none.1)

-- ---- each form is read as its part, byte by byte

abbrev by_bytes : List ℕ → List Part
by_bytes text = parts_from (in_chunk []) text

mark_of_space : (b : ℕ) → is_query_space b ≡ true → byte_mark b ≡ space
mark_of_space b is = grind arith

space_read : (b : ℕ) (text : List ℕ) → is_query_space b ≡ true → by_bytes (b ∷ text) ≡ by_bytes text
space_read b text is = ap (λ m. parts_ended (in_chunk []) m ++ parts_from (begun_after (in_chunk []) m b) text) (mark_of_space b is)

-- what ends a chunk is read as if nothing was begun
ended_by : (b c : ℕ) (more rest : List ℕ) (m : ByteMark) → ends_begun false m ≡ true
    → parts_ended (in_chunk (b ∷ more)) m ++ parts_from (begun_after (in_chunk (b ∷ more)) m c) rest
    ≡ chunk_part (b ∷ more) ∷ (parts_ended (in_chunk []) m ++ parts_from (begun_after (in_chunk []) m c) rest)
ended_by b c more rest plain e = cc
ended_by b c more rest _ e = refl

chunk_ended : (b : ℕ) (more behind : List ℕ) → ends_chunk behind ≡ true
    → parts_from (in_chunk (b ∷ more)) behind ≡ chunk_part (b ∷ more) ∷ by_bytes behind
chunk_ended b more [] stop = refl
chunk_ended b more (c ∷ behind) stop = ended_by b c more behind (byte_mark c) (ends_bytes c ∙ stop)

part_read : {part : Part} {bytes behind : List ℕ} → IsPart part bytes behind → by_bytes (bytes ++ behind) ≡ part ∷ by_bytes behind
part_read opens = refl
part_read closes = refl
part_read (in_quotes {inside} {behind} none) =
    ap (parts_from (in_quote [])) (append_assoc inside (34 ∷ []) behind)
    ∙ inside_on true [] inside (34 ∷ behind) (between_quotes inside (recursion_from_All (λ b. is_quote b ≡ false) inside none))
part_read (not_closed {inside} none) = inside_on true [] inside [] (between_quotes inside (recursion_from_All (λ b. is_quote b ≡ false) inside none))
part_read (longest_run {b} {more} {behind} run stop) =
    inside_on false [] (b ∷ more) behind (in_run (b ∷ more) (recursion_from_All (λ c. stops_chunk c ≡ false) (b ∷ more) run))
    ∙ chunk_ended b more behind stop

are_read : {text : List ℕ} {parts : List Part} → AreParts text parts → by_bytes text ≡ parts
are_read no_part = refl
are_read (white_space {b} {behind} is later) = space_read b behind is ∙ are_read later
are_read (next_part {part} {bytes} {behind} {parts} is later) = part_read is ∙ ap (λ ps. part ∷ ps) (are_read later)

-- ---- up to the first byte of a kind

before_fails : (p : ℕ → Bool) (bytes : List ℕ) → All (λ b. p b ≡ false) (before_first p bytes)
before_fails p bytes = λ k d inside. grind (arith, common_steps, fails_before_first p bytes k d (grind (arith, common_steps)))

whole : (p : ℕ → Bool) (bytes : List ℕ) → bytes ≡ before_first p bytes ++ drop (position_or_len p bytes) bytes
whole p bytes = sym (take-append-drop (position_or_len p bytes) bytes)

none_passes : (p : ℕ → Bool) (bytes : List ℕ) → list_any p bytes ≡ false → All (λ b. p b ≡ false) bytes
none_passes p [] none = All-nil (λ b. p b ≡ false)
none_passes p (b ∷ bytes) none = grind (arith, common_steps, All-cons)

run_stops : (bytes : List ℕ) → ends_chunk (drop (position_or_len stops_chunk bytes) bytes) ≡ true
run_stops [] = refl
run_stops (b ∷ bytes) = by_first (stops_chunk b) refl (run_stops bytes)
  where
    by_first : (s : Bool) → stops_chunk b ≡ s → ends_chunk (drop (position_or_len stops_chunk bytes) bytes) ≡ true
        → ends_chunk (drop (cond (not s) (1 + position_or_len stops_chunk bytes) 0) (b ∷ bytes)) ≡ true
    by_first true e rest = e
    by_first false e rest =
        let next : 1 + position_or_len stops_chunk bytes ≡ suc (position_or_len stops_chunk bytes) = omega arith in
        ap (λ n. ends_chunk (drop n (b ∷ bytes))) next ∙ rest

-- the bytes up to the next quote, and those after it
next_quote : (bytes : List ℕ) → list_any is_quote bytes ≡ true → bytes ≡ before_first is_quote bytes ++ (34 ∷ after_first is_quote bytes)
next_quote bytes some =
    let inside : position_or_len is_quote bytes < length bytes = ltb-true _ _ (sym (any_place is_quote bytes) ∙ some) in
    let mark : get_or bytes (position_or_len is_quote bytes) 0 ≡ 34 = eqb-true _ 34 (passes_at_first is_quote bytes 0 inside) in
    split_at_first is_quote bytes 0 inside ∙ ap (λ b. before_first is_quote bytes ++ (b ∷ after_first is_quote bytes)) mark

-- ---- what is computed is a reading

abbrev Reads : ℕ → Type 0
Reads n = (text : List ℕ) → length text ≤ n → AreParts text (parts_within n text)

chunk_first : (n b : ℕ) (bytes : List ℕ) → length bytes ≤ n → Reads n → stops_chunk b ≡ false
    → AreParts (b ∷ bytes) (chunk_part (b ∷ before_first stops_chunk bytes) ∷ parts_within n (drop (position_or_len stops_chunk bytes) bytes))
chunk_first n b bytes low all plain_byte =
    let behind = drop (position_or_len stops_chunk bytes) bytes in
    let run = All-cons (λ c. stops_chunk c ≡ false) b (before_first stops_chunk bytes) plain_byte (before_fails stops_chunk bytes) in
    let here = next_part (longest_run run (run_stops bytes)) (all behind (omega (arith, length-drop (position_or_len stops_chunk bytes) bytes))) in
    subst (λ bs. AreParts (b ∷ bs) (chunk_part (b ∷ before_first stops_chunk bytes) ∷ parts_within n behind)) (sym (whole stops_chunk bytes)) here

quoted_first : (n : ℕ) (bytes : List ℕ) → length bytes ≤ n → Reads n → list_any is_quote bytes ≡ true
    → AreParts (34 ∷ bytes) (quoted_part (before_first is_quote bytes) ∷ parts_within n (after_first is_quote bytes))
quoted_first n bytes low all some =
    let inside = before_first is_quote bytes in
    let behind = after_first is_quote bytes in
    let here = next_part (in_quotes (before_fails is_quote bytes)) (all behind (omega (arith, length-drop (position_or_len is_quote bytes + 1) bytes))) in
    subst (λ bs. AreParts (34 ∷ bs) (quoted_part inside ∷ parts_within n behind)) (append_assoc inside (34 ∷ []) behind ∙ sym (next_quote bytes some)) here

unclosed_first : (bytes : List ℕ) → list_any is_quote bytes ≡ false → AreParts (34 ∷ bytes) (unclosed_part ∷ [])
unclosed_first bytes none =
    subst (λ bs. AreParts (34 ∷ bs) (unclosed_part ∷ [])) (append-nil bytes) (next_part (not_closed (none_passes is_quote bytes none)) no_part)

-- another first byte stands for this one
as_byte : (b c : ℕ) (bytes : List ℕ) (parts : List Part) → (b == c) ≡ true → AreParts (c ∷ bytes) parts → AreParts (b ∷ bytes) parts
as_byte b c bytes parts e are = subst (λ d. AreParts (d ∷ bytes) parts) (sym (eqb-true b c e)) are

by_first_byte : (n b : ℕ) (bytes : List ℕ) (s o c q more : Bool) → length bytes ≤ n → Reads n
    → is_query_space b ≡ s → (b == 40) ≡ o → (b == 41) ≡ c → is_quote b ≡ q → list_any is_quote bytes ≡ more
    → AreParts (b ∷ bytes) (cond s (parts_within n bytes) (cond o (open_part ∷ parts_within n bytes) (cond c (close_part ∷ parts_within n bytes)
    (cond (not q) (chunk_part (b ∷ before_first stops_chunk bytes) ∷ parts_within n (drop (position_or_len stops_chunk bytes) bytes))
    (cond more (quoted_part (before_first is_quote bytes) ∷ parts_within n (after_first is_quote bytes)) (unclosed_part ∷ []))))))
by_first_byte n b bytes true o c q more low all e f g h i = white_space e (all bytes low)
by_first_byte n b bytes false true c q more low all e f g h i = as_byte b 40 bytes _ f (next_part opens (all bytes low))
by_first_byte n b bytes false false true q more low all e f g h i = as_byte b 41 bytes _ g (next_part closes (all bytes low))
by_first_byte n b bytes false false false false more low all e f g h i = chunk_first n b bytes low all (rw (h, f, g, e) refl)
by_first_byte n b bytes false false false true true low all e f g h i = as_byte b 34 bytes _ h (quoted_first n bytes low all i)
by_first_byte n b bytes false false false true false low all e f g h i = as_byte b 34 bytes _ h (unclosed_first bytes i)

are_within : (n : ℕ) → Reads n
are_within zero [] low = no_part
are_within zero (b ∷ bytes) low = absurd (omega arith)
are_within (suc n) [] low = no_part
are_within (suc n) (b ∷ bytes) low =
    search (rules, by_first_byte n b bytes (is_query_space b) (b == 40) (b == 41) (is_quote b) (list_any is_quote bytes) (omega arith) (are_within n) refl refl refl refl refl)

-- ---- the law

pub computed_parts : (text : List ℕ) → AreParts text (parts_of text)
computed_parts text = are_within (length text) text (omega arith)

-- the parts that are found byte by byte
pub parts_by_bytes : (text : List ℕ) → parts_from (begun_part false []) text ≡ parts_of text
parts_by_bytes text = are_read (computed_parts text)

pub one_reading : (text : List ℕ) (parts : List Part) → AreParts text parts → parts ≡ parts_of text
one_reading text parts are = sym (are_read are) ∙ parts_by_bytes text
