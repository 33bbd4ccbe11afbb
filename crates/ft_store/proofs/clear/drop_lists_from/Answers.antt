use Rattle.std.proofs.Common.{to_z-of_z}
use Rattle.ft_store.proofs.RefusedLemmas.{drop_lists_from}
use Rattle.ft_store.proofs.clear.drop_lists_from.Goals as goal

pub returns : goal.returns
returns g c = (simp (to_z-of_z, c.ranges.tab) at (rw (c.beside.ensures, c.to_sql.ensures) at c.delete.ensures)) 7 _ (drop_lists_from g.S.Store c.args.tab c.args.from.now)
