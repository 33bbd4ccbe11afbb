use Rattle.std.proofs.Common.{rules}
use Rattle.ft_query.proofs.Finding.{found_docid}
use Rattle.ft_query.proofs.walk.matches.Matches.next_docid.Goals as goal

pub returns-in-None-clause-walked : goal.returns-in-None-clause-walked
returns-in-None-clause-walked c = search (rules, found_docid)
