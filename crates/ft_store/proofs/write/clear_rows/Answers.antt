use Rattle.std.proofs.Common.{to_z-of_z}
use Rattle.ft_store.proofs.Common.{without_index}
use Rattle.ft_store.specs.Inside.{without_contents, without_skips, without_columns, without_name}
use Rattle.ft_store.proofs.RefusedLemmas.{drop_name}
use Rattle.ft_store.proofs.InsideLemmas.{drops_then}
use Rattle.ft_store.proofs.write.clear_rows.Goals as goal

pub returns : goal.returns
returns g c =
    let first = drops_then g.S.Store _ _ _ _ (λ v. without_columns c.args.tab (without_skips c.args.tab v)) (λ v. without_contents c.args.tab (without_index c.args.tab v)) (simp (to_z-of_z, c.ranges.tab) at c.in_ok-clear_columns.ensures) (simp (to_z-of_z, c.ranges.tab) at c.in_ok-clear_documents.ensures) in
    drops_then g.S.Store _ _ _ _ (λ v. without_contents c.args.tab (without_index c.args.tab (without_columns c.args.tab (without_skips c.args.tab v)))) (without_name c.args.tab) first ((simp (to_z-of_z, c.ranges.tab) at (rw c.to_sql.ensures at c.delete.ensures)) 1 _ (drop_name g.S.Store c.args.tab))
