use Rattle.std.proofs.Common.{◌≤◌}
use Rattle.ft_match.proofs.query.Query.TheLaws.{the_size}
use Rattle.ft_match.proofs.query.Query.+drop.Given as goal

-- what is left is no deeper
abbrev pub invariant-loop-self : goal.invariant-loop-self
invariant-loop-self l = the_size l.self ≤ the_size l.fn.self
