-- Steps. What the evaluation of a document adds to what was found in it.
use Rattle.std.specs.Prelude.{◌≡◌, ℕ, ◌+◌, ◌^◌, ◌<◌, ◌≤◌, ◌++◌, Bool, List, [], length, take, drop, reverse, map, Result, IfOk, OnOk}
use Rattle.std.specs.declared.alloc.AllocError.{AllocError}
use Rattle.ft_match.specs.Documents.{Place}
use Rattle.ft_match.specs.declared.query.Chain.{Chain}
use Rattle.ft_query.specs.declared.walk.visit.Found.{Found}
use Rattle.ft_query.specs.declared.walk.visit.Wanted.{Wanted}
use Rattle.ft_match.specs.Trees.{PlainTerm, Tree, chain, plain_phrase, plain_link}
use Rattle.ft_match.specs.declared.query.By.{By}
use Rattle.ft_query.specs.Work.{terms_in}
use Rattle.ft_query.specs.Spines.{joined_answer, joined_marks}
use Rattle.ft_query.specs.Visit.{LentPlaces, Occurrences, is_accepted, marks_of, numbered_offsets, if_wanted, plain_lists, plain_starts, head_of}

-- a chain as a query of its own
abbrev pub chain_tree : Chain → Tree
chain_tree near = chain (plain_phrase near.first) (map plain_link near.links.items)

-- Each of these terms has its list, and their numbers, from the next one on, fit.
pub record AreNumbered (found : Found) (terms : List PlainTerm) (lists : List LentPlaces) : Type 0 where
  pub each : length lists ≡ length terms
  pub fits : found.next + length lists < 2 ^ 64

-- the lists of a query's terms, where they are the first of these
abbrev pub own_lists : Tree → List LentPlaces → List LentPlaces
own_lists tree lists = take (length (terms_in tree)) lists

-- and those that come after them
abbrev pub lists_after : Tree → List LentPlaces → List LentPlaces
lists_after tree lists = drop (length (terms_in tree)) lists

-- Each of these terms has its list, the first of these, and the numbers of all, from the next one on, fit.
pub record HaveLists (found : Found) (terms : List PlainTerm) (lists : List LentPlaces) : Type 0 where
  pub each : length terms ≤ length lists
  pub fits : found.next + length lists < 2 ^ 64

-- These marks are added, with the numbers of so many terms from the next one on. What is asked stays.
pub record Marks {X : Type 0} (result : Result X AllocError) (old new : Found) (marks : List (List Place)) (count : ℕ) : Type 0 where
  pub wanted : new.wanted ≡ old.wanted
  pub offsets : OnOk result (new.offsets.items ≡ old.offsets.items ++ numbered_offsets old.next marks)
  pub next : OnOk result (new.next ≡ old.next + count)

-- A query or a part of one is evaluated: whether it accepts is answered, and its marks are added if they are wanted, with no more numbers
-- than it has terms. What is asked stays.
pub record Evaluates (result : Result Bool AllocError) (old new : Found) (tree : Tree) (lists : List LentPlaces) : Type 0 where
  pub accepted : IfOk result (λ b. b ≡ is_accepted tree (plain_lists lists))
  pub wanted : new.wanted ≡ old.wanted
  pub offsets : OnOk result (new.offsets.items ≡ old.offsets.items ++ numbered_offsets old.next (if_wanted old.wanted (marks_of tree (plain_lists lists))))
  pub next : OnOk result (new.next ≡ old.next + length (if_wanted old.wanted (marks_of tree (plain_lists lists))))
  pub room : OnOk result (new.next ≤ old.next + length lists)

-- A right side is evaluated after its left one, which accepts or not: whether both together accept is answered, and the right side's marks
-- are added if they are wanted and it isn't after a NOT, with no more numbers than it has terms. What is asked stays.
pub record Joins (by : By) (accepted : Bool) (result : Result Bool AllocError) (old new : Found) (tree : Tree) (lists : List LentPlaces) : Type 0 where
  pub both : IfOk result (λ b. b ≡ joined_answer by accepted (is_accepted tree (plain_lists lists)))
  pub wanted : new.wanted ≡ old.wanted
  pub offsets : OnOk result (new.offsets.items ≡ old.offsets.items ++ numbered_offsets old.next
      (if_wanted old.wanted (joined_marks by (marks_of tree (plain_lists lists)))))
  pub next : OnOk result (new.next ≡ old.next + length (if_wanted old.wanted (joined_marks by (marks_of tree (plain_lists lists)))))
  pub room : OnOk result (new.next ≤ old.next + length lists)

-- nothing is found so far, and this is asked
pub record IsEmpty (found : Found) (asked : Wanted) : Type 0 where
  pub wanted : found.wanted ≡ asked
  pub offsets : found.offsets.items ≡ []
  pub next : found.next ≡ 0

-- the occurrences of a chain's first phrase, and from the last one back those of its other phrases
pub record AreLinked (head : Occurrences) (behind : List Occurrences) (all : List (List Place)) : Type 0 where
  pub first : head.items ≡ head_of all
  pub rest : plain_starts behind ≡ reverse (drop 1 all)
