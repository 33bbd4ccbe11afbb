-- Steps. What is left of the lists of a walk.
use Rattle.std.specs.Prelude.{ℕ, ℤ, int_lt, Bool, false, List, [], ◌∷◌, drop, map, sum_by, if◌then◌else◌, Option, Some, None}
use Rattle.std.specs.Ordering.{int_eq}
use Rattle.ft_query.specs.declared.walk.cursor.Cursor.{Cursor}
use Rattle.ft_match.specs.Documents.{Place, Document, PlaceList, lists_with, place_count}
use Rattle.ft_query.specs.Lists.{plain_list}
use Rattle.ft_match.specs.Trees.{PlainTerm}
use Rattle.ft_match.specs.Occurs.{is_listed}

-- what the search still has to pass
abbrev pub lists_left : Cursor → List PlaceList
lists_left c = map plain_list (drop c.at c.lists.value.items)

-- what the walk still has to pass
abbrev pub lists_kept : Cursor → List PlaceList
lists_kept c = map plain_list (drop c.kept c.lists.value.items)

-- how many places are left in all
abbrev pub places_left : List Cursor → ℕ
places_left cursors = sum_by (λ c. place_count (lists_kept c)) cursors

-- the next docid, if there is one
abbrev pub docid_ahead : List PlaceList → Option ℤ
docid_ahead [] = None
docid_ahead (l ∷ ls) = Some l.docid

-- this document is the next one
abbrev pub is_next : ℤ → List PlaceList → Bool
is_next docid [] = false
is_next docid (l ∷ ls) = int_eq l.docid docid

-- the places in the next document
abbrev pub next_places : List PlaceList → List Place
next_places [] = []
next_places (l ∷ ls) = l.places

-- what is left after the next document
abbrev pub after_next : List PlaceList → List PlaceList
after_next [] = []
after_next (l ∷ ls) = ls

-- the places in this document, if it is the next one
abbrev pub places_at : ℤ → List PlaceList → List Place
places_at docid ls = if is_next docid ls then next_places ls else []

-- what is left once this document is passed
abbrev pub passed : ℤ → List PlaceList → List PlaceList
passed docid ls = if is_next docid ls then after_next ls else ls

-- the lesser of two docids that may be there
abbrev pub lesser_of : Option ℤ → Option ℤ → Option ℤ
lesser_of docid None = docid
lesser_of None (Some next) = Some next
lesser_of (Some docid) (Some next) = if int_lt next docid then Some next else Some docid

-- the lesser of this docid and the next one
abbrev pub least_of : Option ℤ → List PlaceList → Option ℤ
least_of docid ls = lesser_of docid (docid_ahead ls)

-- the least docid that is next in some list, or this one
abbrev pub least_from : Option ℤ → List (List PlaceList) → Option ℤ
least_from docid [] = docid
least_from docid (l ∷ ls) = least_from (least_of docid l) ls

-- a term's list
abbrev pub listed_for : List Document → PlainTerm → List PlaceList
listed_for documents t = lists_with (is_listed t) documents
