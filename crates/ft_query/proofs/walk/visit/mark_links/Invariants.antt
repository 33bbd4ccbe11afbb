use Rattle.std.proofs.Common.{◌≡◌, ℕ, ◌+◌, List, ◌++◌, length, map, drop, unwrap_or, flat_map, option_map}
use Rattle.ft_query.proofs.Common.{Place, Link, Steps, LentPlaces, Occurrences, Found, plain_link, TakesOf, link_marks, link_cost, numbered_offsets, plain_lists, plain_starts}
use Rattle.ft_query.proofs.walk.visit.mark_links.Given as goal

-- These marks are added but for those of the links that are left, and of so many steps the ones for
-- them are left. Of so many lists there are left as many as those links have terms.
pub record AreMarked (marks : List (List Place)) (count cost at k : ℕ) (starts : List Place) (links : List Link) (lists : List LentPlaces) (all : List Occurrences)
    (old new : Found) (begun steps : Steps) : Type 0 where
  pub wanted : new.wanted ≡ old.wanted
  pub next : new.next ≡ old.next + at
  pub left : at + length lists ≡ count
  pub each : length (flat_map (λ link. link.to.terms) (map plain_link links)) ≡ length lists
  pub offsets : new.offsets.items ++ numbered_offsets new.next (link_marks k starts (map plain_link links) (plain_lists lists) (plain_starts all)) ≡ old.offsets.items
      ++ numbered_offsets old.next marks
  pub taken : TakesOf cost (link_cost k starts (map plain_link links) (plain_lists lists) (plain_starts all)) begun steps

abbrev pub invariant-loop-i : goal.invariant-loop-i
invariant-loop-i l =
    AreMarked (link_marks (length l.near.first.terms.items) l.starts (map plain_link l.near.links.items) (plain_lists l.lists)
    (plain_starts l.all))
    (length l.lists)
    (link_cost (length l.near.first.terms.items) l.starts (map plain_link l.near.links.items) (plain_lists l.lists) (plain_starts l.all))
    l.at l.k (unwrap_or (option_map (λ v. v.items) l.kept) l.starts) (drop l.i l.near.links.items) (drop l.at l.lists) (drop l.i l.all) l.fn.found l.found l.fn.steps l.steps
