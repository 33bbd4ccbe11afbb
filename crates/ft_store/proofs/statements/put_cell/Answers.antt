use Rattle.std.proofs.Common.{to_z-of_z}
use Rattle.ft_store.proofs.Common.{shown_value}
use Rattle.ft_store.proofs.StoreTables.{bound_num, bound_txt}
use Rattle.ft_store.proofs.AddedLemmas.{put_cell}
use Rattle.ft_store.proofs.statements.put_cell.Goals as goal

pub returns : goal.returns
returns g c = (simp (to_z-of_z, c.ranges.tab, c.ranges.docid, c.ranges.column, bound_num, bound_txt) at (rw (c.beside_value.ensures, c.beside_value-2.ensures, c.beside_value-3.ensures, c.number_of.ensures, c.text_of.ensures.value) at c.put.ensures.changes)) 5 _ 6 _ (put_cell g.S.Store c.args.tab c.args.docid c.args.column (shown_value c.args.value.now) c.text_of.ensures.again)
