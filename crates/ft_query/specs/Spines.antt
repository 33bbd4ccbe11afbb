-- Steps. A query from its first operand on, as a list of what is joined to it.
use Rattle.std.specs.Prelude.{◌≡◌, ◌++◌, ◌&&◌, ◌||◌, Bool, not, List, [], ◌∷◌, map}
use Rattle.ft_match.specs.declared.query.By.{By}
use Rattle.ft_match.specs.declared.query.By.TheVariants as by
use Rattle.ft_query.specs.declared.walk.joint.Joint.{Joint}
use Rattle.ft_query.specs.declared.walk.spine.Leaf.{Leaf}
use Rattle.ft_query.specs.declared.walk.spine.Leaf.TheVariants as leaf
use Rattle.ft_match.specs.Machine.{joined_sides}
use Rattle.ft_match.specs.Trees.{Tree, phrase, chain, plain_phrase, plain_link, tree_of}

abbrev pub leaf_tree : Leaf → Tree
leaf_tree (leaf.Phrase p) = phrase (plain_phrase p.now)
leaf_tree (leaf.Near c) = chain (plain_phrase c.now.first) (map plain_link c.now.links.items)

-- a part of a query with all that is joined to it, the last joint first
abbrev pub whole : List Joint → Tree → Tree
whole [] p = p
whole (j ∷ js) p = joined_sides (whole js p) j.by (tree_of j.right.now)

-- These joints come behind those that are there, and a part with them is the query.
pub record AddsSpine (old new : List Joint) (part query : Tree) : Type 0 where
  pub own : List Joint
  pub added : new ≡ old ++ own
  pub all : whole own part ≡ query

-- whether both sides together accept, from what each answers
abbrev pub joined_answer : By → Bool → Bool → Bool
joined_answer by.And left right = left && right
joined_answer by.Or left right = left || right
joined_answer by.Not left right = left && not right

-- the marks that a right side adds
abbrev pub joined_marks : {X : Type 0} → By → List X → List X
joined_marks by.And marks = marks
joined_marks by.Or marks = marks
joined_marks by.Not marks = []
