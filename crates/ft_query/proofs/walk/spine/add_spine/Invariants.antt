use Rattle.ft_query.proofs.Common.{tree_of, AddsSpine}
use Rattle.ft_query.proofs.walk.spine.add_spine.Given as goal

-- the part that is left, with all that is joined to it
abbrev pub invariant-loop-part : goal.invariant-loop-part
invariant-loop-part l = AddsSpine l.fn.joints.items l.joints.items (tree_of l.part) (tree_of l.query)
