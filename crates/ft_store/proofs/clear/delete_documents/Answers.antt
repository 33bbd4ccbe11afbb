use Rattle.std.proofs.Common.{to_z-of_z}
use Rattle.ft_store.proofs.Common.{without_index}
use Rattle.ft_store.specs.Inside.{without_contents}
use Rattle.ft_store.proofs.RefusedLemmas.{drop_contents}
use Rattle.ft_store.proofs.InsideLemmas.{drops_then}
use Rattle.ft_store.proofs.clear.delete_documents.Goals as goal

pub returns : goal.returns
returns g c =
    drops_then g.S.Store _ _ _ _ (without_index c.args.tab) (without_contents c.args.tab) (simp (to_z-of_z, c.ranges.tab) at c.in_ok-delete_index.ensures)
    ((simp (to_z-of_z, c.ranges.tab) at (rw c.to_sql.ensures at c.delete.ensures)) 5 _ (drop_contents g.S.Store c.args.tab))
