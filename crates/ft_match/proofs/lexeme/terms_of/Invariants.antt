use Rattle.std.proofs.Common.{◌≡◌, ◌++◌, map}
use Rattle.std.specs.Vec.Iter.{into_iter_items}
use Rattle.ft_match.proofs.Common.{plain_token, plain_term, terms_of}
use Rattle.ft_match.proofs.Terms.{AreWithin, term_in}
use Rattle.ft_match.proofs.lexeme.terms_of.Given as goal

-- the terms so far, and those of the tokens that are left
abbrev pub invariant-loop-token : goal.invariant-loop-token
invariant-loop-token l =
    (goal.iterator-loop-token).can_next l.token-iterator ×
    (goal.iterator-loop-token).is_finite l.token-iterator ×
    AreWithin l.part (into_iter_items l.token-iterator) ×
    (map plain_term l.terms.items ++ map (term_in l.part) (map plain_token (into_iter_items l.token-iterator)) ≡ terms_of l.part)
