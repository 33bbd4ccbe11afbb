-- Worked examples of the tokenizer.
use Rattle.std.proofs.Common.{◌≡◌, ℕ, List, [], ◌∷◌, codes, rules}
use Rattle.ft_match.proofs.Common.{PlainToken, tokens_of}

abbrev token : List ℕ → ℕ → ℕ → ℕ → PlainToken
token term pos start size = record { term = term; pos = pos; start = start; size = size }

record Rows : Type 0 where
  -- 'Ærø café' in UTF-8: capitals past ASCII stay
  capital_past_ascii : tokens_of (0xC3 ∷ 0x86 ∷ 114 ∷ 0xC3 ∷ 0xB8 ∷ 32 ∷ 99 ∷ 97 ∷ 102 ∷ 0xC3 ∷ 0xA9 ∷ [])
      ≡ token (0xC3 ∷ 0x86 ∷ 114 ∷ 0xC3 ∷ 0xB8 ∷ []) 0 0 5 ∷ token (99 ∷ 97 ∷ 102 ∷ 0xC3 ∷ 0xA9 ∷ []) 1 6 5 ∷ []
  number : tokens_of (codes "-15") ≡ token (codes "15") 0 1 2 ∷ []
  ascii_capitals : tokens_of (codes "urgent: Serious") ≡ token (codes "urgent") 0 0 6 ∷ token (codes "serious") 1 8 7 ∷ []
  no_tokens : tokens_of (codes " !! ") ≡ []

rows : Rows
rows = search rules
