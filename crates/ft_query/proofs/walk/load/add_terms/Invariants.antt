use Rattle.std.proofs.Common.{◌≡◌, ◌++◌, map, take}
use Rattle.ft_query.proofs.Common.{plain_term, plain_terms}
use Rattle.ft_query.proofs.walk.load.add_terms.Given as goal

abbrev pub invariant-loop-term : goal.invariant-loop-term
invariant-loop-term l = plain_terms l.all.items ≡ plain_terms l.fn.all.items ++ map plain_term (take l.term-index l.terms)
