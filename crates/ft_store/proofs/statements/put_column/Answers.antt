use Rattle.std.proofs.Common.{to_z-of_z}
use Rattle.ft_store.proofs.AddedLemmas.{put_column}
use Rattle.ft_store.proofs.statements.put_column.Goals as goal

pub returns : goal.returns
returns g c = (simp (to_z-of_z, c.ranges.tab, c.ranges.column) at (rw (c.beside.ensures, c.beside-2.ensures, c.to_sql.ensures) at c.put.ensures.changes)) 3 _ 4 _ (put_column g.S.Store c.args.tab c.args.column c.args.name.now c.utf8.name)
