use Rattle.std.proofs.Common.{◌+◌, ◌*◌, vec_len}
use Rattle.ft_query.proofs.Common.{tree_of, width}
use Rattle.ft_query.proofs.Climbs.{ClimbingOver}
use Rattle.ft_query.proofs.walk.visit.+visit_part.Given as goal

abbrev pub decreases-visit_joint : goal.decreases-visit_joint
decreases-visit_joint l = 2 * width (tree_of l.joint.right.now) + 1

abbrev pub decreases-visit_part : goal.decreases-visit_part
decreases-visit_part l = 2 * width (tree_of l.query.now)

abbrev pub invariant-visit_part-loop-joints : goal.invariant-visit_part-loop-joints
invariant-visit_part-loop-joints l =
    ClimbingOver (tree_of l.query) l.fn.lists.now l.lists.now l.fn.joints.items l.joints.items l.accepted l.fn.found l.found l.fn.steps l.steps

abbrev pub decreases-visit_part-loop-joints : goal.decreases-visit_part-loop-joints
decreases-visit_part-loop-joints l = vec_len l.joints
