use Rattle.std.proofs.Common.{rules, to_z-of_z}
use Rattle.ft_store.specs.Inside.{without_skips, without_columns}
use Rattle.ft_store.proofs.RefusedLemmas.{drop_skips, drop_columns}
use Rattle.ft_store.proofs.InsideLemmas.{drops_then, gives_up}
use Rattle.ft_store.proofs.write.clear_columns.Goals as goal

pub returns : goal.returns
returns g c =
    drops_then g.S.Store _ _ _ _ (without_skips c.args.tab) (without_columns c.args.tab) ((simp (to_z-of_z, c.ranges.tab) at (rw c.to_sql.ensures at c.in_ok-delete.ensures)) 13 _ (drop_skips g.S.Store c.args.tab))
    ((simp (to_z-of_z, c.ranges.tab) at (rw c.to_sql-2.ensures at c.delete-2.ensures)) 3 _ (drop_columns g.S.Store c.args.tab))

pub returns-in_err-delete : goal.returns-in_err-delete
returns-in_err-delete g c = gives_up g.S.Store _ _ c.delete.result c.from_residual.result c.in_err-delete.field-0.0 _ _ 0 _ _ _ (search rules) (search rules) ((rw c.to_sql.ensures at c.delete.ensures) 13 _ (drop_skips g.S.Store _)) (λ db none. none)
