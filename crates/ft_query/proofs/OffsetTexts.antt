-- The text of offsets, one offset after the other.
use Rattle.std.proofs.Common.{◌≡◌, ℕ, List, [], ◌∷◌, ◌++◌, map, sym, append_assoc, append-nil, decimal}
use Rattle.ft_query.proofs.Common.{join_with_byte, Offset, offset_numbers, offsets_text}

abbrev pub offset_text : Offset → List ℕ
offset_text o = join_with_byte 32 (map decimal (offset_numbers o))

-- each of these offsets after a space
abbrev pub texts_after : List Offset → List ℕ
texts_after [] = []
texts_after (o ∷ os) = 32 ∷ offsets_text (o ∷ os)

regrouped : (a b c d rest : List ℕ) → a ++ 32 ∷ (b ++ 32 ∷ (c ++ 32 ∷ (d ++ rest))) ≡ (a ++ 32 ∷ (b ++ 32 ∷ (c ++ 32 ∷ d))) ++ rest
regrouped a b c d rest = simp append_assoc

pub text_split : (o : Offset) (os : List Offset) → offsets_text (o ∷ os) ≡ offset_text o ++ texts_after os
text_split o [] = sym (append-nil (offset_text o))
text_split o (p ∷ ps) = regrouped (decimal o.column) (decimal o.term) (decimal o.place) (decimal o.size) (texts_after (p ∷ ps))
