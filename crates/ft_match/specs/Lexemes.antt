-- Meaning. The lexemes of a MATCH text, by its bytes. The words, signs, quotes and parentheses are those of "Full-text Index Queries" and
-- of "Set Operations Using The Enhanced Query Syntax"; that these and white space alone part a text is an own choice. The sections named in
-- quotes are of the SQLite document "SQLite FTS3 and FTS4 Extensions".
use Rattle.std.specs.Prelude.{◌≡◌, ℕ, zero, suc, ◌+◌, ◌-◌, ◌*◌, ◌==◌, ◌&&◌, ◌||◌, Bool, true, false, not, nat_eq, if◌then◌else◌, List, [], ◌∷◌, ◌++◌}
use Rattle.std.specs.Prelude.{length, drop, map, fold, position, flat_map, slice_index, All, Option, Some, None, codes, bytes_eq}
use Rattle.std.specs.List.{list_any, list_all, starts_with, position_or_len, before_first, after_first}
use Rattle.std.specs.Char.{is_ascii_digit}
use Rattle.std.specs.Int.{is_in_range}
use Rattle.std.specs.Str.{byte, str_eq_ignore_ascii_case}
use Rattle.ft_match.specs.Tokens.{tokens_of}
use Rattle.ft_match.specs.Trees.{PlainTerm}

-- ---- parts: parentheses, quoted parts, and chunks

pub data Part : Type 0 where
  open_part : Part
  close_part : Part
  quoted_part : List ℕ → Part
  chunk_part : List ℕ → Part
  -- a quote that isn't closed
  unclosed_part : Part

-- U+0009 to U+000D and U+0020 are white space
abbrev pub is_query_space : ℕ → Bool
is_query_space b = is_in_range 9 13 b || b == 32

abbrev pub is_quote : ℕ → Bool
is_quote b = b == byte "\""

-- such a byte stands in no chunk
abbrev pub stops_chunk : ℕ → Bool
stops_chunk b = is_quote b || (b == byte "(" || (b == byte ")" || is_query_space b))

-- such a byte comes next, or none
abbrev pub ends_chunk : List ℕ → Bool
ends_chunk [] = true
ends_chunk (b ∷ bs) = stops_chunk b

-- The forms of parts: a part, its bytes, and what stands after them up to the text's end.
pub data IsPart : Part → List ℕ → List ℕ → Type 0 where
  -- a parenthesis is a part of its own, beside other bytes too ("Set Operations Using The Enhanced Query Syntax")
  opens : {behind : List ℕ} → IsPart open_part (codes "(") behind
  closes : {behind : List ℕ} → IsPart close_part (codes ")") behind
  -- a quote begins a phrase, which goes up to the next quote ("Full-text Index Queries"); nothing escapes one (own choice)
  in_quotes : {inside behind : List ℕ} → All (λ b. is_quote b ≡ false) inside
      → IsPart (quoted_part inside) (codes "\"" ++ (inside ++ codes "\"")) behind
  -- where no other quote comes it isn't closed, and goes up to the end (own choice)
  not_closed : {inside : List ℕ} → All (λ b. is_quote b ≡ false) inside → IsPart unclosed_part (codes "\"" ++ inside) []
  -- any other bytes are a chunk, which goes on as far as it can (own choice)
  longest_run : {b : ℕ} {more behind : List ℕ} → All (λ c. stops_chunk c ≡ false) (b ∷ more) → ends_chunk behind ≡ true
      → IsPart (chunk_part (b ∷ more)) (b ∷ more) behind

-- The parts of a text, with white space before, between and after them. A text falls into such parts in one way, which is `parts_of`: the
-- law `parts_by_forms`.
pub data AreParts : List ℕ → List Part → Type 0 where
  no_part : AreParts [] []
  white_space : {b : ℕ} {behind : List ℕ} {parts : List Part} → is_query_space b ≡ true → AreParts behind parts → AreParts (b ∷ behind) parts
  next_part : {part : Part} {bytes behind : List ℕ} {parts : List Part} → IsPart part bytes behind → AreParts behind parts
      → AreParts (bytes ++ behind) (part ∷ parts)

-- the same, computed, of a text of at most so many bytes
abbrev pub parts_within : ℕ → List ℕ → List Part
parts_within zero text = []
parts_within (suc n) [] = []
parts_within (suc n) (b ∷ bs) =
    if is_query_space b then parts_within n bs
    else (if b == byte "(" then open_part ∷ parts_within n bs
    else (if b == byte ")" then close_part ∷ parts_within n bs
    else (if not (is_quote b) then chunk_part (b ∷ before_first stops_chunk bs) ∷ parts_within n (drop (position_or_len stops_chunk bs) bs)
    else (if list_any is_quote bs then quoted_part (before_first is_quote bs) ∷ parts_within n (after_first is_quote bs)
    else unclosed_part ∷ []))))

abbrev pub parts_of : List ℕ → List Part
parts_of text = parts_within (length text) text

-- ---- lexemes

pub data Lexeme : Type 0 where
  open_paren : Lexeme
  close_paren : Lexeme
  and_word : Lexeme
  or_word : Lexeme
  not_word : Lexeme
  -- NEAR with its number
  near_word : ℕ → Lexeme
  -- the column of a filter
  filter_on : ℕ → Lexeme
  word : PlainTerm → Lexeme
  quoted : List PlainTerm → Lexeme

-- the byte before this place is `^`
abbrev pub follows_caret : List ℕ → ℕ → Bool
follows_caret text start = not (start == 0) && slice_index text (start - 1) == byte "^"

-- The terms of a chunk's rest or of a quoted part: its tokens, each a prefix term where `*` follows it directly, and a first term where `^`
-- stands directly before it in that part ("Full-text Index Queries"). Elsewhere both signs only separate (own choice).
abbrev pub terms_of : List ℕ → List PlainTerm
terms_of text = map
    (λ t. record { text = t.term; prefix = slice_index text (t.start + t.size) == byte "*"; first = follows_caret text t.start }) (tokens_of text)

abbrev pub is_colon : ℕ → Bool
is_colon b = b == byte ":"

-- The first column that has the name before the chunk's first colon, without ASCII case ("Full-text Index Queries"). Where no column has
-- the name there is no filter (own choice).
abbrev pub column_filter_of : List (List ℕ) → List ℕ → Option ℕ
column_filter_of columns chunk =
    if list_any is_colon chunk then position (λ name. str_eq_ignore_ascii_case name (before_first is_colon chunk)) columns else None

-- A chunk that is no operator: a filter if it has one, and a word for each token of the rest. So a filter restricts the first word of its
-- chunk, or what comes next where the chunk ends at the colon (own choice).
abbrev pub words_after : Option ℕ → List ℕ → List Lexeme
words_after None chunk = map word (terms_of chunk)
words_after (Some column) chunk = filter_on column ∷ map word (terms_of (after_first is_colon chunk))

abbrev pub digits_number : List ℕ → ℕ
digits_number digits = fold (λ n d. 10 * n + (d - 48)) 0 digits

abbrev pub is_digit_run : List ℕ → Bool
is_digit_run [] = false
is_digit_run (d ∷ ds) = list_all is_ascii_digit (d ∷ ds)

-- An operator is in capitals ("Set Operations Using The Enhanced Query Syntax"), and a whole chunk (own choice). NEAR has 10 where it names
-- no number ("Full-text Index Queries").
abbrev pub lexemes_of_chunk : List (List ℕ) → List ℕ → List Lexeme
lexemes_of_chunk columns chunk =
    if bytes_eq chunk (codes "AND") then and_word ∷ []
    else (if bytes_eq chunk (codes "OR") then or_word ∷ []
    else (if bytes_eq chunk (codes "NOT") then not_word ∷ []
    else (if bytes_eq chunk (codes "NEAR") then near_word 10 ∷ []
    else (if starts_with nat_eq chunk (codes "NEAR/") && is_digit_run (drop 5 chunk) then near_word (digits_number (drop 5 chunk)) ∷ []
    else words_after (column_filter_of columns chunk) chunk))))

-- an unclosed quote gives none: a test on the text refuses it (own choice)
abbrev pub lexemes_of_part : List (List ℕ) → Part → List Lexeme
lexemes_of_part columns open_part = open_paren ∷ []
lexemes_of_part columns close_part = close_paren ∷ []
lexemes_of_part columns (quoted_part text) = quoted (terms_of text) ∷ []
lexemes_of_part columns (chunk_part text) = lexemes_of_chunk columns text
lexemes_of_part columns unclosed_part = []

-- the lexemes of a text, among columns of these names
abbrev pub lexemes_of : List (List ℕ) → List ℕ → List Lexeme
lexemes_of columns text = flat_map (lexemes_of_part columns) (parts_of text)
