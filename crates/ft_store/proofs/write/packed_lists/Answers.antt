use Rattle.std.proofs.Common.{◌∙◌, map, ap, sym, subst, vec_items}
use Rattle.ft_store.proofs.Common.{map_push, All-more, RowChange}
use Rattle.ft_rows.specs.Packed.{CanPack, packed}
use Rattle.ft_store.specs.Groups.{entry_put, PutsList}
use Rattle.ft_store.proofs.GroupLemmas.{one_more_list}
use Rattle.ft_store.proofs.write.packed_lists.Goals as goal

pub loop-change-preserved : goal.loop-change-preserved
loop-change-preserved c =
    let at = c.loop-change.change-index in
    let change = c.change-item.result in
    let lists = c.loop-change.lists.items in
    let list = c.in_ok-pack.field-0 in
    let can = subst CanPack c.as_slice.ensures.value (c.can_pack.ensures.can c.if-not-can_pack.false) in
    let packed = c.in_ok-pack.ensures ∙ ap packed c.as_slice-in-loop-change.ensures.value ∙ ap (λ (r : RowChange). (entry_put r).1) (sym c.in-PutEntries.is) in (
      All-more PutsList c.args.changes.now at change c.loop-change-test.true c.loop-change.invariant.0 (subst PutsList (sym c.in-PutEntries.is ∙ c.change-item.is) can),
      ap (map vec_items) c.in_ok-push.ensures.items ∙ map_push vec_items lists list
          ∙ one_more_list c.args.changes.now at change (map vec_items lists) (vec_items list) c.loop-change-test.true c.change-item.is packed c.loop-change.invariant.1,
    )
