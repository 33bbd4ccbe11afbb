use Rattle.std.proofs.Common.{◌≡◌, ◌++◌, map}
use Rattle.std.specs.Vec.Iter.{into_iter_items}
use Rattle.ft_match.proofs.Common.{plain_term, word, terms_of, plain_lexeme}
use Rattle.ft_match.proofs.lexeme.push_words.Given as goal

-- the words so far, and those of the terms that are left
abbrev pub invariant-loop-term : goal.invariant-loop-term
invariant-loop-term l =
    (goal.iterator-loop-term).can_next l.term-iterator ×
    (goal.iterator-loop-term).is_finite l.term-iterator ×
    (map plain_lexeme l.found.items ++ map word (map plain_term (into_iter_items l.term-iterator)) ≡ map plain_lexeme l.fn.found.items ++ map word
    (terms_of l.part))
