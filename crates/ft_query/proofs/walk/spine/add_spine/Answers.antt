use Rattle.std.proofs.Common.{◌≡◌, rules, subst}
use Rattle.ft_query.proofs.Common.{Tree, tree_of, joined_sides, AddsSpine}
use Rattle.ft_query.proofs.Spines.{spine_on}
use Rattle.ft_query.proofs.walk.spine.add_spine.Goals as goal

pub loop-part-preserved : goal.loop-part-preserved
loop-part-preserved c =
    let left = tree_of c.deref-part.result.now in
    let is : tree_of c.loop-part.part.now ≡ joined_sides left c.new.result.by (tree_of c.new.result.right.now) = search rules in
    let at = subst (λ (p : Tree). AddsSpine c.args.joints.now.items c.loop-part.joints.items p (tree_of c.args.query.now)) is c.loop-part.invariant in
    spine_on _ _ _ c.new.result left at c.in_ok-push.ensures.items
