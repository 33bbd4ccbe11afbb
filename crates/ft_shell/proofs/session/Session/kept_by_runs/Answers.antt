-- by the calls that the turns make
use Rattle.ft_shell.proofs.PromiseLemmas.{kept_by_runs}
use Rattle.ft_shell.proofs.session.Session.kept_by_runs.Goals as goal

pub returns : goal.returns
returns g c = kept_by_runs g.P.Store g.S.Store c.kept_with_causes.ensures c.kept_by_calls.ensures.sound
