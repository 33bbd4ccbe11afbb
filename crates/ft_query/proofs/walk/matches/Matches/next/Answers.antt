use Rattle.ft_query.proofs.Finding.{hits_found, passes_on}
use Rattle.ft_query.proofs.walk.matches.Matches.next.Goals as goal

pub returns-clause-walked : goal.returns-clause-walked
returns-clause-walked c = hits_found c.find.result c.args.self.now c.find.new.self c.find.ensures.finds

pub returns-clause-passes : goal.returns-clause-passes
returns-clause-passes c = passes_on _ c.find.result c.args.self.now c.find.new.self c.find.ensures.finds
