use Rattle.std.proofs.Common.{to_z-of_z}
use Rattle.ft_store.proofs.RefusedLemmas.{drop_list}
use Rattle.ft_store.proofs.statements.drop_list.Goals as goal

pub returns : goal.returns
returns g c = (simp (to_z-of_z, c.ranges.tab, c.ranges.docid) at (rw (c.beside.ensures, c.to_sql.ensures, c.beside-2.ensures) at c.delete.ensures)) 7 _ (drop_list g.S.Store c.args.tab c.args.term.now c.args.docid)
