use Rattle.ft_query.proofs.walk.matches.Matches.open.Goals as goal

pub returns-clause-stands : goal.returns-clause-stands
returns-clause-stands g c = λ clean. (g.met.L.Lists.in_order c.open.new.lists clean, c.in_ok-open.ensures.loads.lists clean)
