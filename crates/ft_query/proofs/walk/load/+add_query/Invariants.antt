use Rattle.std.proofs.Common.{vec_len}
use Rattle.ft_query.proofs.Common.{tree_of, width, plain_terms}
use Rattle.ft_query.proofs.Loading.{AddsFront}
use Rattle.ft_query.proofs.walk.load.+add_query.Given as goal

abbrev pub decreases-add_query : goal.decreases-add_query
decreases-add_query l = width (tree_of l.query.now)

abbrev pub invariant-loop-joint : goal.invariant-loop-joint
invariant-loop-joint l = AddsFront (tree_of l.query) l.joints.items (plain_terms l.fn.all.items) (plain_terms l.all.items)

abbrev pub decreases-loop-joint : goal.decreases-loop-joint
decreases-loop-joint l = vec_len l.joints
