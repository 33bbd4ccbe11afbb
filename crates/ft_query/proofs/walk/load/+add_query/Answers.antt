-- each right side is less wide, and its terms come after those of the part that it is joined to
use Rattle.std.proofs.Common.{rules}
use Rattle.ft_query.proofs.Common.{tree_of}
use Rattle.ft_query.proofs.Loading.{front_on}
use Rattle.ft_query.proofs.Spines.{right_width}
use Rattle.ft_query.proofs.walk.load.+add_query.Goals as goal

pub add_query-requires : goal.add_query-requires
add_query-requires t c = search (rules, right_width c.pop.new.self.items c.in-Some.joint c.loop-joint.invariant.part (tree_of c.args.query.now))

pub loop-joint-preserved : goal.loop-joint-preserved
loop-joint-preserved t c = front_on c.in-Some.joint c.in-Some.ensures.items c.loop-joint.invariant c.in_ok-add_query.ensures
