use Rattle.std.proofs.Common.{◌∙◌, rules, arith}
use Rattle.ft_query.proofs.Common.{tree_of, leaf_tree, own_lists, plain_lists}
use Rattle.ft_query.proofs.Climbs.{nodes_cost, leaf_fits, climb_begun, begun_failed, climbing_fits, climbing_on, climbing_failed, climbed, next_joint, no_joint}
use Rattle.ft_query.proofs.walk.visit.+visit_part.Goals as goal

pub visit_joint-returns-then-not-accepted-clause-steps : goal.visit_joint-returns-then-not-accepted-clause-steps
visit_joint-returns-then-not-accepted-clause-steps t c =
    let right = tree_of c.args.joint.right.now in
    let more = c.term_count-count.ensures.steps in
    record {
      at_least = omega (arith, c.visit.ensures.step.at_least, more.at_least);
      at_most = omega (arith, nodes_cost right (plain_lists (own_lists right c.args.lists.now.now)), c.visit.ensures.step.at_most, more.at_most);
    }

pub visit_part-visit_leaf-requires : goal.visit_part-visit_leaf-requires
visit_part-visit_leaf-requires t c = omega (arith, leaf_fits c.in_ok-leaf.ensures.own (leaf_tree c.in_ok-leaf.leaf) c.in_ok-leaf.ensures.all c.requires)

pub visit_part-returns-in_err-accepted-clause-steps : goal.visit_part-returns-in_err-accepted-clause-steps
visit_part-returns-in_err-accepted-clause-steps t c =
    let spine = c.in_ok-leaf.ensures in
    begun_failed c.args.lists.now.now spine.own (leaf_tree c.in_ok-leaf.leaf) spine.all c.requires.each c.in_err-accepted.ensures.steps

pub visit_part-loop-joints-init : goal.visit_part-loop-joints-init
visit_part-loop-joints-init t c =
    let spine = c.in_ok-leaf.ensures in
    let first = c.in_ok-accepted.ensures in
    record {
      own = spine.own;
      behind = spine.added;
      climbs = climb_begun spine.own (leaf_tree c.in_ok-leaf.leaf) spine.all c.requires.each first.evaluates first.left first.steps first.nodes;
    }

pub visit_part-visit_joint-requires : goal.visit_part-visit_joint-requires
visit_part-visit_joint-requires t c =
    let next = next_joint c.loop-joints.invariant c.in-Some.ensures.items (search rules) in
    let fit = climbing_fits next.rest c.in-Some.joint next.climbs c.requires in
    (omega (arith, fit.less), fit.have)

pub visit_part-returns-in_err-accepted-2-clause-steps : goal.visit_part-returns-in_err-accepted-2-clause-steps
visit_part-returns-in_err-accepted-2-clause-steps t c =
    let next = next_joint c.loop-joints.invariant c.in-Some.ensures.items (search rules) in
    climbing_failed next.rest c.in-Some.joint next.climbs c.requires c.in_err-accepted-2.ensures.steps

pub visit_part-loop-joints-preserved : goal.visit_part-loop-joints-preserved
visit_part-loop-joints-preserved t c =
    let next = next_joint c.loop-joints.invariant c.in-Some.ensures.items (search rules) in
    let more = c.in_ok-accepted-2.ensures in
    record {
      own = next.rest;
      behind = more.joints ∙ next.behind;
      climbs = climbing_on next.rest c.in-Some.joint next.climbs c.requires more.joins more.left more.steps more.nodes;
    }

pub visit_part-returns-clause-evaluates : goal.visit_part-returns-clause-evaluates
visit_part-returns-clause-evaluates t c = (climbed (no_joint c.loop-joints.invariant (search rules)).1 c.requires.each).evaluates

pub visit_part-returns-clause-left : goal.visit_part-returns-clause-left
visit_part-returns-clause-left t c = (climbed (no_joint c.loop-joints.invariant (search rules)).1 c.requires.each).left_is

pub visit_part-returns-clause-steps : goal.visit_part-returns-clause-steps
visit_part-returns-clause-steps t c = (climbed (no_joint c.loop-joints.invariant (search rules)).1 c.requires.each).taken

pub visit_part-returns-clause-nodes : goal.visit_part-returns-clause-nodes
visit_part-returns-clause-nodes t c = (climbed (no_joint c.loop-joints.invariant (search rules)).1 c.requires.each).nodes

pub visit_part-returns-clause-joints : goal.visit_part-returns-clause-joints
visit_part-returns-clause-joints t c = (no_joint c.loop-joints.invariant (search rules)).0
