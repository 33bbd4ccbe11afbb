use Rattle.std.proofs.Common.{◌≡◌, ◌+◌, ◌≤◌, map, drop}
use Rattle.ft_match.proofs.Common.{nests_deep, plain_lexeme}
use Rattle.ft_match.proofs.limits.nests_deep.Given as goal

-- what is left nests as all lexemes do, and nowhere before it did they nest too deep
abbrev pub invariant-loop-lexeme : goal.invariant-loop-lexeme
invariant-loop-lexeme l =
    (l.opens ≤ l.lexeme-index) × (l.closes ≤ l.lexeme-index) × (l.opens ≤ l.closes + 32) ×
    (nests_deep (l.opens, l.closes) (map plain_lexeme (drop l.lexeme-index l.lexemes)) ≡ nests_deep (0, 0) (map plain_lexeme l.lexemes))
