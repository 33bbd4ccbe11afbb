-- Steps. What calls of a walk make of its cursors.
use Rattle.std.specs.Prelude.{◌≡◌, List, map}
use Rattle.ft_query.specs.declared.walk.cursor.Cursor.{Cursor}
use Rattle.ft_match.specs.Documents.{PlaceList}
use Rattle.ft_query.specs.Cursors.{lists_left, lists_kept}

-- this is left to the walk, and to a search
pub record StandsAt (cursor : Cursor) (lists : List PlaceList) : Type 0 where
  pub kept : lists_kept cursor ≡ lists
  pub left : lists_left cursor ≡ lists

-- this is left to the search, and to the walk what was
pub record SearchesOn (old new : Cursor) (lists : List PlaceList) : Type 0 where
  pub left : lists_left new ≡ lists
  pub kept : lists_kept new ≡ lists_kept old

-- the same of all cursors
pub record AllSearchOn (old new : List Cursor) (lists : List (List PlaceList)) : Type 0 where
  pub left : map lists_left new ≡ lists
  pub kept : map lists_kept new ≡ map lists_kept old
