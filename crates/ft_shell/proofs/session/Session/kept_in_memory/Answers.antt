-- an honest store is always clean
use Rattle.ft_shell.proofs.session.Session.kept_in_memory.Goals as goal

pub returns : goal.returns
returns g c = λ first old new reads all held settled ran any. c.kept_by_runs.ensures first old new reads all held settled ran (g.met.S.Honest.always_clean new.full_text.store.held.store)
