use Rattle.ft_query.proofs.walk.load.held.Given as goal

abbrev pub invariant-loop-i : goal.invariant-loop-i
invariant-loop-i l = Unit {0}
