-- one value more, and all of them
use Rattle.std.proofs.Common.{◌<◌, ◌^◌, ◌++◌, length, map, refl, ap, sym, ◌∙◌, rules, to_z-of_z, filter, map-id}
use Rattle.ft_documents.proofs.Common.{YieldsList-from_vec, YieldsList-from_enumerate, YieldsList-end, shown_value, shown_change}
use Rattle.ft_documents.proofs.Steps.{change_more}
use Rattle.ft_documents.proofs.CellSteps.{placed_cell, is_put, put_at, tells_put, one_more_put, all_puts}
use Rattle.ft_documents.proofs.rewrite.put_cells.Goals as goal

pub loop-place-preserved-in-Continue-1 : goal.loop-place-preserved-in-Continue-1
loop-place-preserved-in-Continue-1 c =
    one_more_put _ _ (map shown_value c.args.before.now) c.in-Some.place c.in-Some.value c.loop-place.yielded _ (map shown_change c.loop-place.changes.items) _ _
    (sym (tells_put c.args.before.now c.in-Some.place _ c.get.result c.get.ensures.lookup.3 c.get.ensures.lookup.1) ∙ sym c.ne.ensures ∙ c.if-ne.true) (change_more _ _ _ c.in_ok-push.ensures.items) c.loop-place.invariant

pub loop-place-preserved-else-ne : goal.loop-place-preserved-else-ne
loop-place-preserved-else-ne c =
    one_more_put _ _ (map shown_value c.args.before.now) c.in-Some.place c.in-Some.value c.loop-place.yielded _ (map shown_change c.loop-place.changes.items) _ _
    (sym (tells_put c.args.before.now c.in-Some.place _ c.get.result c.get.ensures.lookup.3 c.get.ensures.lookup.1) ∙ sym c.ne.ensures ∙ c.if-ne.false) refl c.loop-place.invariant

pub loop-place-preserved : goal.loop-place-preserved
loop-place-preserved c =
    one_more_put _ _ (map shown_value c.args.before.now) c.in-Some.place c.in-Some.value c.loop-place.yielded _ (map shown_change c.loop-place.changes.items) _ _
    (sym (tells_put c.args.before.now c.in-Some.place _ c.get.result c.get.ensures.lookup.3 c.get.ensures.lookup.1) ∙ sym c.ne.ensures ∙ c.if-ne.false) refl c.loop-place.invariant

pub returns : goal.returns
returns c =
    let t = to_z-of_z c.ranges.tab in
    let d = to_z-of_z c.ranges.docid in
    let before = map shown_value c.args.before.now in
    let first = map shown_change c.args.changes.now.items in
    let road = YieldsList-from_enumerate {s = c.into_iter-place-iterator.result} (YieldsList-from_vec c.args.after.items (search rules) (search rules)) (search rules) in
    let came = (YieldsList-end road c.loop-place.yielded c.loop-place.place-iterator c.loop-place.yielded_by _ c.next.new.self c.in-None.is c.next.ensures.steps).0 in
    let few : length c.args.after.items < 2 ^ 63 = search rules in
    (rw (t, d) at c.loop-place.invariant) ∙ ap (λ cs. first ++ map (put_at c.args.tab c.args.docid) (filter (is_put before) (map placed_cell cs))) (sym (map-id c.loop-place.yielded) ∙ came)
    ∙ ap (λ cs. first ++ cs) (all_puts c.args.tab c.args.docid before c.args.after.items few)
