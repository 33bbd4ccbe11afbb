use Rattle.std.proofs.Common.{to_z-of_z}
use Rattle.ft_store.proofs.RefusedLemmas.{drop_cells}
use Rattle.ft_store.proofs.statements.drop_cells.Goals as goal

pub returns : goal.returns
returns g c = (simp (to_z-of_z, c.ranges.tab, c.ranges.docid) at (rw (c.to_sql.ensures, c.to_sql-2.ensures) at c.delete.ensures)) 5 _ (drop_cells g.S.Store c.args.tab c.args.docid)
