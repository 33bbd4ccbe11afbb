use Rattle.std.proofs.Common.{ℕ, ◌-◌, ◌≤◌, ◌≡◌, ◌+◌, length}
use Rattle.ft_query.proofs.Common.{Steps, more_steps, tree_of, terms_in, node_count, width}
use Rattle.ft_query.proofs.walk.spine.+term_count.Given as goal

-- of so many steps so many are left
pub record TakesBefore (all left : ℕ) (old new : Steps) : Type 0 where
  pub few : left ≤ all
  pub taken : new.taken ≡ more_steps (all - left) old
  pub at_least : old.taken ≤ new.taken
  pub at_most : new.taken + left ≤ old.taken + all

abbrev pub decreases-term_count : goal.decreases-term_count
decreases-term_count l = width (tree_of l.query.now)

-- the terms and the nodes so far, and those of the part that is left
abbrev pub invariant-loop-part : goal.invariant-loop-part
invariant-loop-part l =
    (l.count + length (terms_in (tree_of l.part)) ≡ length (terms_in (tree_of l.query)))
    × (width (tree_of l.part) ≤ width (tree_of l.query)) × TakesBefore (node_count (tree_of l.query)) (node_count (tree_of l.part)) l.fn.steps l.steps
