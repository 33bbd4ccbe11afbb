use Rattle.std.proofs.Common.{◌≡◌, ◌+◌, take, sum_by}
use Rattle.ft_match.proofs.Common.{term_count, plain_lexeme}
use Rattle.ft_match.proofs.limits.has_many_terms.Given as goal

-- what is left of the limit after the terms so far
abbrev pub invariant-loop-lexeme : goal.invariant-loop-lexeme
invariant-loop-lexeme l = sum_by (λ x. term_count (plain_lexeme x)) (take l.lexeme-index l.lexemes) + l.left ≡ 64
