-- Worked examples of how a text falls into parts.
use Rattle.std.proofs.Common.{◌≡◌, [], ◌∷◌, ◌++◌, codes, rules}
use Rattle.ft_match.proofs.Common.{open_part, close_part, quoted_part, chunk_part, unclosed_part, parts_of}

record Rows : Type 0 where
  no_parts : parts_of (codes " ") ≡ []
  all_white_space : parts_of (codes "a" ++ 9 ∷ codes "b" ++ 10 ∷ codes "c" ++ 11 ∷ codes "d" ++ 12 ∷ codes "e" ++ 13 ∷ codes "f g")
      ≡ chunk_part (codes "a") ∷ chunk_part (codes "b") ∷ chunk_part (codes "c") ∷ chunk_part (codes "d") ∷ chunk_part (codes "e") ∷ chunk_part
      (codes "f") ∷ chunk_part (codes "g") ∷ []
  -- U+00A0 is no white space
  no_break_space : parts_of (97 ∷ 0xC2 ∷ 0xA0 ∷ 98 ∷ []) ≡ chunk_part (97 ∷ 0xC2 ∷ 0xA0 ∷ 98 ∷ []) ∷ []
  signs_in_chunk : parts_of (codes " subject:^a* -15 ") ≡ chunk_part (codes "subject:^a*") ∷ chunk_part (codes "-15") ∷ []
  parens_end_chunks : parts_of (codes "a(b)c") ≡ chunk_part (codes "a") ∷ open_part ∷ chunk_part (codes "b") ∷ close_part ∷ chunk_part (codes "c") ∷ []
  quote_ends_chunk : parts_of (codes "a\"b c\"d") ≡ chunk_part (codes "a") ∷ quoted_part (codes "b c") ∷ chunk_part (codes "d") ∷ []
  parens_in_quotes : parts_of (codes "\"(a) OR\"") ≡ quoted_part (codes "(a) OR") ∷ []
  -- a doubled quote is two
  quotes_in_turn : parts_of (codes "\"a\"\"b\"") ≡ quoted_part (codes "a") ∷ quoted_part (codes "b") ∷ []
  nothing_quoted : parts_of (codes "\"\"") ≡ quoted_part [] ∷ []
  -- a backslash escapes nothing
  quote_left_open : parts_of (codes "\"a\\\" (b\"c d") ≡ quoted_part (codes "a\\") ∷ open_part ∷ chunk_part (codes "b") ∷ unclosed_part ∷ []

rows : Rows
rows = search rules
