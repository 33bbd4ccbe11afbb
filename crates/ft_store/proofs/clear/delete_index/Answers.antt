use Rattle.std.proofs.Common.{to_z-of_z}
use Rattle.ft_store.specs.Inside.{without_lists, without_sizes}
use Rattle.ft_store.proofs.RefusedLemmas.{drop_sizes}
use Rattle.ft_store.proofs.InsideLemmas.{drops_then}
use Rattle.ft_store.proofs.clear.delete_index.Goals as goal

pub returns : goal.returns
returns g c =
    drops_then g.S.Store _ _ _ _ (without_lists c.args.tab) (without_sizes c.args.tab) (simp (to_z-of_z, c.ranges.tab) at c.in_ok-delete_lists.ensures)
    ((simp (to_z-of_z, c.ranges.tab) at (rw c.to_sql.ensures at c.delete.ensures)) 9 _ (drop_sizes g.S.Store c.args.tab))
