-- Meaning. The tokenizer "simple" of "Tokenizers", over the bytes of a text. Places and sizes are bytes of the text ("The Offsets
-- Function"); positions count its tokens from 0. The sections named in quotes are of the SQLite document "SQLite FTS3 and FTS4 Extensions".
use Rattle.std.specs.Prelude.{◌≡◌, ℕ, ◌+◌, ◌<◌, ◌≤◌, ◌&&◌, ◌||◌, Bool, nat_le, nat_lt, if◌then◌else◌, List, [], ◌∷◌, ◌++◌}
use Rattle.std.specs.Prelude.{length, map, slice_index, slice_range, All, AllPairs, string_bytes}
use Rattle.std.specs.List.{list_any, range_with_len}
use Rattle.std.specs.Char.{is_ascii_alphanumeric, to_ascii_lowercase}
use Rattle.std.specs.Str.{str_to_ascii_lowercase}
use Rattle.ft_match.specs.declared.text.Token.{Token}

-- a token without where it lies in memory
pub record PlainToken : Type 0 where
  pub term : List ℕ
  pub pos : ℕ
  pub start : ℕ
  pub size : ℕ

abbrev pub plain_token : Token → PlainToken
plain_token t = record { term = string_bytes t.term; pos = t.pos; start = t.start; size = t.size }

-- ASCII letters and digits, and each byte of a character of code point 128 or more ("Tokenizers")
abbrev pub is_eligible : ℕ → Bool
is_eligible b = is_ascii_alphanumeric b || nat_le 128 b

-- the place lies in the token's span
abbrev pub covers : ℕ → PlainToken → Bool
covers place t = nat_le t.start place && nat_lt place (t.start + t.size)

-- the text from start to before end, with A to Z made small and nothing else ("Tokenizers")
abbrev pub small_range : List ℕ → ℕ → ℕ → List ℕ
small_range text start end = str_to_ascii_lowercase (slice_range text start end)

-- The tokens of a text: their spans are not empty, rise, and have at least one byte between them; a byte is eligible exactly where it lies
-- in a span; the positions are 0, 1, 2 and so on; a term is its span in small letters.
pub record AreTokens (text : List ℕ) (tokens : List PlainToken) : Type 0 where
  pub filled : All (λ t. 0 < t.size) tokens
  pub within : All (λ t. t.start + t.size ≤ length text) tokens
  pub apart : AllPairs (λ a b. a.start + a.size < b.start) tokens
  pub eligible : (place : ℕ) → place < length text → is_eligible (slice_index text place) ≡ list_any (covers place) tokens
  pub positions : map (λ t. t.pos) tokens ≡ range_with_len 0 (length tokens)
  pub terms : All (λ t. t.term ≡ small_range text t.start (t.start + t.size)) tokens

-- what is known after the front of a text: how many tokens ended in it, and the run of eligible bytes at its end, in small letters, with
-- where that run begins or the next one may
pub record Scan : Type 0 where
  pub count : ℕ
  pub start : ℕ
  pub run : List ℕ

abbrev pub token_of : ℕ → ℕ → List ℕ → List PlainToken
token_of pos start [] = []
token_of pos start (b ∷ bs) = record { term = b ∷ bs; pos = pos; start = start; size = length (b ∷ bs) } ∷ []

-- the token that ends here, if there is a run
abbrev pub ended : Scan → List PlainToken
ended s = token_of s.count s.start s.run

-- what is known after one more byte
abbrev pub after_byte : Scan → ℕ → Scan
after_byte s b =
    if is_eligible b then record s { run = s.run ++ to_ascii_lowercase b ∷ [] }
    else record { count = s.count + length (ended s); start = s.start + length s.run + 1; run = [] }

-- the tokens that end in what is left of the text
abbrev pub tokens_from : Scan → List ℕ → List PlainToken
tokens_from s [] = ended s
tokens_from s (b ∷ bs) = (if is_eligible b then [] else ended s) ++ tokens_from (after_byte s b) bs

-- the tokens of a text, computed
abbrev pub tokens_of : List ℕ → List PlainToken
tokens_of text = tokens_from (record { count = 0; start = 0; run = [] }) text
