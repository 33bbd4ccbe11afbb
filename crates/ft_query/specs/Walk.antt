-- Meaning. A walk as its callers see it.
use Rattle.std.specs.Prelude.{◌≡◌, ℕ, ℤ, ◌+◌, ◌-◌, ◌*◌, ◌^◌, ◌≤◌, min, length, sum_by, List, [], ◌∷◌, ◌++◌, Option, Some, None}
use Rattle.ft_match.specs.declared.query.Query.{Query}
use Rattle.ft_match.specs.declared.hit.Hit.{Hit}
use Rattle.ft_match.specs.declared.hit.Offset.{Offset}
use Rattle.ft_match.specs.Documents.{Document, AreDocuments, PlaceList}
use Rattle.ft_match.specs.Trees.{Tree, tree_of}
use Rattle.ft_match.specs.Occurs.{PlainHit, plain_hit, hits_of}
use Rattle.ft_query.specs.Work.{lists_of, width, entry_count, candidate_count}

-- the query, what is left of the list of each of its terms, and the steps so far
pub record Walk : Type 0 where
  pub query : Query
  pub lists : List (List PlaceList)
  pub steps : ℕ

-- how many documents are left in the lists, counted in each
abbrev pub lists_to_come : Walk → ℕ
lists_to_come walk = sum_by length walk.lists

-- The walk stands before these documents: they are in order, and what is left of its lists is what they have of the query's terms.
abbrev pub StandsBefore : Walk → List Document → Type 0
StandsBefore walk documents = AreDocuments documents × (walk.lists ≡ lists_of (tree_of walk.query) documents)

abbrev pub hit_list : Option Hit → List PlainHit
hit_list None = []
hit_list (Some hit) = plain_hit hit ∷ []

-- the most steps that a walk over these documents takes
abbrev pub steps_to_come : Tree → List Document → ℕ
steps_to_come tree documents = 32 * entry_count tree documents + 8 * width tree * candidate_count tree documents

-- From before these documents the walk went on to stand before the rest, with these hits between. Each step is counted, and each document
-- that was passed has one.
pub record Went (old new : Walk) (hits : List PlainHit) (documents : List Document) : Type 0 where
  pub rest : List Document
  pub stands : StandsBefore new rest
  pub hits_are : hits_of (tree_of old.query) documents ≡ hits ++ hits_of (tree_of old.query) rest
  pub at_most : new.steps + steps_to_come (tree_of old.query) rest ≤ old.steps + steps_to_come (tree_of old.query) documents
  pub at_least : min (old.steps + candidate_count (tree_of old.query) documents) (2 ^ 64 - 1) ≤ new.steps + candidate_count (tree_of old.query) rest

-- Where no hit is answered there is no rest.
pub record Walked (old new : Walk) (hit : Option Hit) (documents : List Document) : Type 0 where
  pub went : Went old new (hit_list hit) documents
  pub ended : hit ≡ None → went.rest ≡ []

-- a hit of this docid with these offsets
abbrev pub hit_at : Option ℤ → List Offset → List PlainHit
hit_at None offsets = []
hit_at (Some docid) offsets = record { docid = docid; offsets = offsets } ∷ []

-- The same where of the hit only its docid is answered: the offsets are those that the document has, and aren't answered.
pub record WalkedTo (old new : Walk) (docid : Option ℤ) (documents : List Document) : Type 0 where
  pub offsets : List Offset
  pub went : Went old new (hit_at docid offsets) documents
  pub ended : docid ≡ None → went.rest ≡ []
