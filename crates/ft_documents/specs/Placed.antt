-- Steps. Index rows, as the lists of places of documents that they mean (own choice).
use Rattle.std.specs.Prelude.{◌≡◌, ℤ, Bool, true, ◌&&◌, List, [], ◌∷◌, map, IsPermutation, IsSorted}
use Rattle.std.specs.List.{flat_map}
use Rattle.std.specs.declared.cmp.Ordering.{Ordering}
use Rattle.std.specs.Ordering.{nat_cmp, int_cmp, ordering_then}
use Rattle.ft_match.specs.Documents.{Place, PlaceList}
use Rattle.ft_values.specs.declared.rows.ListRow.{ListRow}
use Rattle.ft_values.specs.declared.rows.Spot.{Spot}
use Rattle.ft_rows.specs.declared.terms.Posting.{Posting}
use Rattle.ft_rows.specs.Shown.{shown_list}
use Rattle.ft_rows.specs.Terms.{lists_of_postings}

-- a spot as the walk has it, and back
abbrev pub place_of : Spot → Place
place_of s = record { column = s.column; pos = s.pos; start = s.place; size = s.size }

abbrev pub spot_in : Place → Spot
spot_in p = record { column = p.column; pos = p.pos; place = p.start; size = p.size }

-- a list of spots as the walk has it, and that of a row
abbrev pub read_list : ℤ × List Spot → PlaceList
read_list l = record { docid = l.0; places = map place_of l.1 }

abbrev pub list_of : ListRow → PlaceList
list_of row = read_list (shown_list row)

abbrev pub placed_in : ℤ → Place → Posting
placed_in docid p = record { docid = docid; spot = spot_in p }

-- the places of lists, one after another
abbrev pub all_in : List PlaceList → List Posting
all_in lists = flat_map (λ l. map (placed_in l.docid) l.places) lists

-- by docid, column and position; the rest tells apart what no index has at one position
abbrev pub posting_cmp : Posting → Posting → Ordering
posting_cmp a b =
    ordering_then (int_cmp a.docid b.docid)
    (ordering_then (nat_cmp a.spot.column b.spot.column)
    (ordering_then (nat_cmp a.spot.pos b.spot.pos)
    (ordering_then (nat_cmp a.spot.place b.spot.place) (nat_cmp a.spot.size b.spot.size))))

-- each stands before the next
abbrev pub rise : {X : Type 0} → (X → X → Bool) → List X → Bool
rise before [] = true
rise before (x ∷ []) = true
rise before (x ∷ y ∷ xs) = before x y && rise before (y ∷ xs)

-- the lists of rows in any order: the rows' places in order, by docid
pub record AreListsOf (rows : List ListRow) (found : List PlaceList) : Type 0 where
  pub places : List Posting
  pub same : IsPermutation (all_in (map list_of rows)) places
  pub sorted : IsSorted posting_cmp places
  pub lists : found ≡ map read_list (lists_of_postings places)
