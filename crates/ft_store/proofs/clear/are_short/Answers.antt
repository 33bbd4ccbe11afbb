use Rattle.std.proofs.Common.{All, subst, take_all}
use Rattle.ft_store.proofs.Common.{All-more}
use Rattle.ft_store.specs.Anew.{IsShortNote}
use Rattle.ft_store.proofs.ClearLemmas.{short_note}
use Rattle.ft_store.proofs.clear.are_short.Goals as goal

pub loop-row-preserved : goal.loop-row-preserved
loop-row-preserved c =
    All-more IsShortNote c.args.rows.now c.loop-row.row-index c.row-item.result c.loop-row-test.true c.loop-row.invariant
    (subst IsShortNote c.row-item.is (short_note c.row-item.result c.name_in.result c.if-is_none.ensures c.name_in.ensures.found))

pub returns : goal.returns
returns c = λ _. (c.if-rows-ge-MANY.false, subst (All IsShortNote) (take_all c.loop-row.row-index c.args.rows.now c.loop-row-test.false) c.loop-row.invariant)
