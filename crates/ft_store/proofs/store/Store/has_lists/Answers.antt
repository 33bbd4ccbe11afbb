use Rattle.std.proofs.Common.{to_z-of_z}
use Rattle.ft_store.proofs.store.Store.has_lists.Goals as goal

pub returns-else-same-clause-same : goal.returns-else-same-clause-same
returns-else-same-clause-same g c clean = rw (← c.self.view_is) (simp (to_z-of_z, c.ranges.tab) at (c.in_ok-same.ensures.given.rows clean))
