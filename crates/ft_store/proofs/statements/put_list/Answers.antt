use Rattle.std.proofs.Common.{to_z-of_z}
use Rattle.ft_store.proofs.AddedLemmas.{put_list}
use Rattle.ft_store.proofs.statements.put_list.Goals as goal

pub returns : goal.returns
returns g c = (simp (to_z-of_z, c.ranges.tab, c.ranges.docid) at (rw (c.beside.ensures, c.to_sql.ensures, c.beside-2.ensures, c.to_sql-2.ensures) at c.put.ensures.changes)) 7 _ 5 _ (put_list g.S.Store c.args.tab c.args.term.now c.args.docid c.args.list.now)
