use Rattle.std.proofs.Common.{◌∙◌, ◌<◌, map, length, ap, sym, arith, vec_items}
use Rattle.ft_store.proofs.Common.{length-map, get_or-map, bound, RowChange}
use Rattle.ft_store.specs.Groups.{entry_put}
use Rattle.ft_store.proofs.GroupLemmas.{one_more_bound}
use Rattle.ft_store.proofs.write.list_values.Goals as goal

pub loop-at-preserved : goal.loop-at-preserved
loop-at-preserved c =
    let changes = c.args.changes.now in
    let lists = c.args.lists.now in
    let at = c.loop-at.at in
    let list = c.index-lists-at.result in
    let bytes = c.as_slice.result.now in
    let within : at < length lists = omega (arith, length-map lists vec_items, length-map changes (λ (r : RowChange). (entry_put r).1), ap length c.requires.packed, c.loop-at-test.true) in
    let here = c.as_slice.ensures.value ∙ ap vec_items c.index-lists-at.is ∙ sym (get_or-map vec_items lists at list bytes within) in
    c.in_ok-push_values.ensures ∙ one_more_bound changes at c.index-changes-at.result (map vec_items lists) bytes (bound c.loop-at.values.items) c.loop-at-test.true c.index-changes-at.is c.requires.packed here c.loop-at.invariant
