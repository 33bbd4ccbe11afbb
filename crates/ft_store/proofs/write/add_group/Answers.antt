use Rattle.std.proofs.Common.{◌≡◌, ◌∙◌, map, length, ap, arith}
use Rattle.ft_store.proofs.Common.{length-map, bound}
use Rattle.ft_store.specs.Groups.{entry_put}
use Rattle.ft_store.proofs.MadeLemmas.{eight_made}
use Rattle.ft_store.proofs.write.add_group.Goals as goal

pub returns : goal.returns
returns g c =
    let changes = c.args.changes.now in
    let entries = map entry_put changes in
    let eight : length entries ≡ 8 = omega (arith, length-map changes entry_put, c.if-changes-ne-GROUP.false) in
    let is = ap bound c.as_slice-2.ensures.value ∙ c.in_ok-values.ensures in
    eight_made g.S.Store c.args.tx.now.conn c.add_lists.new.tx.conn c.add_lists.result changes (rw c.in-Some.is at c.in_ok-lists.ensures).puts (omega (arith, c.if-changes-ne-GROUP.false))
    (c.add_lists.ensures.done.steps entries eight is) c.add_lists.ensures.done.stays (c.add_lists.ensures.grown entries eight is) (c.add_lists.ensures.refused entries eight is)
