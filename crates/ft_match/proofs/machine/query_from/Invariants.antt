use Rattle.std.proofs.Common.{◌≡◌, map}
use Rattle.ft_match.proofs.Common.{run, tree_from, plain_lexeme, plain_state}
use Rattle.ft_match.proofs.machine.query_from.Given as goal

-- the run of what is left is that of all lexemes
abbrev pub invariant-loop-lexeme : goal.invariant-loop-lexeme
invariant-loop-lexeme l =
    (goal.iterator-loop-lexeme).can_next l.lexeme-iterator ×
    (goal.iterator-loop-lexeme).is_finite l.lexeme-iterator ×
    (run l.default (plain_state l.state) (map plain_lexeme l.lexeme-iterator.rest.items) ≡ tree_from l.default (map plain_lexeme l.fn.lexemes.items))
