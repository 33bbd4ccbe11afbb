-- The tests on lexemes, over lexemes as the parser holds them.
use Rattle.std.proofs.Common.{◌≡◌, ℕ, ◌+◌, ◌-◌, ◌<◌, true, List, [], ◌∷◌, map, refl, ap, arith, ◌||◌, sum_by, lt-ltb}
use Rattle.ft_match.proofs.Common.{list_any, fold-map, Lexeme, term_count, is_far, nests_deep, plain_lexeme}
use Rattle.ft_match.specs.declared.lexeme.Lexeme.{Lexeme as CodeLexeme}

-- where the parentheses nest too deep already, what is left changes nothing
pub deep_already : (opens closes : ℕ) (ls : List Lexeme) → 32 < opens - closes → nests_deep (opens, closes) ls ≡ true
deep_already opens closes [] deep = lt-ltb (closes + 32) opens (omega arith)
deep_already opens closes (l ∷ ls) deep = grind arith

pub terms_counted : (ls : List CodeLexeme) → sum_by term_count (map plain_lexeme ls) ≡ sum_by (λ l. term_count (plain_lexeme l)) ls
terms_counted ls = fold-map (λ n l. n + term_count l) plain_lexeme 0 ls

pub numbers_tested : (ls : List CodeLexeme) → list_any is_far (map plain_lexeme ls) ≡ list_any (λ l. is_far (plain_lexeme l)) ls
numbers_tested [] = refl
numbers_tested (l ∷ ls) = ap (λ rest. is_far (plain_lexeme l) || rest) (numbers_tested ls)
