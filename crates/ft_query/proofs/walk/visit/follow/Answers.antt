use Rattle.std.proofs.Common.{◌+◌, ◌<◌, [], cond, map, drop, length, sym, ap, ◌∙◌, arith}
use Rattle.ft_query.proofs.Common.{LentPlaces, plain_term, among, followed, plain_lists}
use Rattle.ft_query.proofs.Passes.{follow_more, total_more, followed_few}
use Rattle.ft_query.proofs.walk.visit.follow.Goals as goal

pub loop-i-preserved : goal.loop-i-preserved
loop-i-preserved c =
    let i = c.loop-i.i in
    let starts = c.loop-i.starts.items in
    let list = c.index-lists-i.result in
    let inside : i < length c.args.lists.now = omega arith in
    let is = rw c.deref.ensures.value at c.in_ok-starts.ensures.starts in
    let behind = followed (i + 1 + 1) (map plain_term (drop (i + 1) c.args.terms.now)) (plain_lists (drop (i + 1) c.args.lists.now)) in
    let listed = ap (λ (l : LentPlaces). behind (cond c.index-terms-i.result.first [] (among (i + 1) 0 starts l.now))) c.index-lists-i.is in
    let step = follow_more i c.args.terms.now c.args.lists.now starts c.index-terms-i.result list c.loop-i-test.true c.requires c.index-terms-i.is in (
      ap behind is ∙ listed ∙ sym step ∙ c.loop-i.invariant.0,
      omega arith,
      omega (arith, total_more c.args.lists.now i list inside, ap (λ (l : LentPlaces). length l.now) c.index-lists-i.is, followed_few c.index-terms-i.result.first (i + 1) starts list.now, ap length is, ap length c.deref.ensures.value),
    )

pub returns-in_err-starts-clause-steps : goal.returns-in_err-starts-clause-steps
returns-in_err-starts-clause-steps c =
    let i = c.loop-i.i in
    let list = c.index-lists-i.result in
    let inside : i < length c.args.lists.now = omega arith in
    record {
      at_least = omega (arith, c.in_err-starts.ensures.steps.at_least);
      at_most = omega (arith, total_more c.args.lists.now i list inside, ap (λ (l : LentPlaces). length l.now) c.index-lists-i.is, c.in_err-starts.ensures.steps.at_most);
    }
