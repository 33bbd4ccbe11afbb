use Rattle.std.proofs.Common.{to_z-of_z}
use Rattle.ft_store.proofs.RefusedLemmas.{drop_size}
use Rattle.ft_store.proofs.statements.drop_size.Goals as goal

pub returns : goal.returns
returns g c = (simp (to_z-of_z, c.ranges.tab, c.ranges.docid, c.ranges.column) at (rw (c.to_sql.ensures, c.to_sql-2.ensures, c.to_sql-3.ensures) at c.delete.ensures)) 9 _ (drop_size g.S.Store c.args.tab c.args.docid c.args.column)
