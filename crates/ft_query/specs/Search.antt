-- Steps. The search for the next hit of a walk.
use Rattle.std.specs.Prelude.{◌≡◌, ℕ, ◌<◌, List, [], map, Option, None, option_map, IfSome}
use Rattle.ft_match.specs.declared.query.Query.{Query}
use Rattle.ft_query.specs.declared.walk.cursor.Cursor.{Cursor}
use Rattle.ft_match.specs.declared.hit.Hit.{Hit}
use Rattle.ft_match.specs.declared.hit.Offset.{Offset}
use Rattle.ft_query.specs.declared.walk.visit.Wanted.{Wanted}
use Rattle.ft_match.specs.Documents.{Document}
use Rattle.ft_query.specs.Visit.{if_wanted}
use Rattle.ft_query.specs.Cursors.{lists_left, lists_kept}
use Rattle.ft_query.specs.Walk.{Walk, StandsBefore, Went, hit_at, lists_to_come}

-- the walk where the search is
abbrev pub walk_at : Query → List Cursor → ℕ → Walk
walk_at query cursors steps = record { query = query; lists = map lists_left cursors; steps = steps }

-- the walk where it stands
abbrev pub stands_at : Query → List Cursor → ℕ → Walk
stands_at query cursors steps = record { query = query; lists = map lists_kept cursors; steps = steps }

-- The walk went on to the next hit, which has those of its offsets that are wanted.
pub record Finds (wanted : Wanted) (old new : Walk) (hit : Option Hit) (documents : List Document) : Type 0 where
  pub offsets : List Offset
  pub went : Went old new (hit_at (option_map (λ h. h.docid) hit) offsets) documents
  pub told : IfSome hit (λ h. h.offsets.items ≡ if_wanted wanted offsets)
  pub ended : hit ≡ None → went.rest ≡ []

-- the same before whatever documents the walk stands, and fewer are left where there was one
pub record FindsNext (wanted : Wanted) (old new : Walk) (hit : Option Hit) : Type 0 where
  pub finds : (documents : List Document) → StandsBefore old documents → Finds wanted old new hit documents
  pub passes : IfSome hit (λ _. lists_to_come new < lists_to_come old)
