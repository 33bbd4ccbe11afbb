-- Which document a walk comes to next.
use Rattle.std.proofs.Common.{◌≡◌, ◌≢◌, ◌+◌, ◌||◌, ℤ, pos, negsuc, ◌<ℤ◌, Bool, true, false, cond, List, [], ◌∷◌, length, map, refl, sym, ap, ◌∙◌, arith, true≢false, Option, Some, None, filter, AllPairs, int_lt, sum_by, int_eq, is_eq}
use Rattle.std.proofs.lemmas.Cmp.{tied_itself, int_cmp_total}
use Rattle.ft_query.proofs.Common.{or_parts, sum_by-cons, list_any, AllByRecursion, nat_tests, recursion_from_All, All-tail, Place, Posting, Document, AreDocuments, IsBefore, PlaceList, is_filled, places_with, place_count, PlainTerm, Tree, PlainHit, is_listed, accepts, offsets_of, hits_of, terms_in, lists_of, candidate_count, places_at, passed, least_of, least_from, listed_for, listed_places, common_steps}
use Rattle.ft_match.proofs.{pairs_head, pairs_tail}
use Rattle.ft_query.proofs.NotListed.{has_term, accepts_none}

-- ---- docids

earlier : (a b : ℤ) → a <ℤ b → (int_lt a b ≡ true) × (int_lt b a ≡ false)
earlier (pos a) (pos b) h = (grind (arith, nat_tests), grind (arith, nat_tests))
earlier (pos a) (negsuc b) h = absurd (omega arith)
earlier (negsuc a) (pos b) h = (refl, refl)
earlier (negsuc a) (negsuc b) h = (grind (arith, nat_tests), grind (arith, nat_tests))

not_later : (a b : ℤ) → a <ℤ b → int_eq b a ≡ false
not_later a b h = grind arith

not_less : (a : ℤ) → int_lt a a ≡ false
not_less (pos a) = grind (arith, nat_tests)
not_less (negsuc a) = grind (arith, nat_tests)

itself : (a : ℤ) → int_eq a a ≡ true
itself a = ap is_eq (tied_itself int_cmp_total a)

-- ---- one list

-- the first docid of a list is after this one
IsLater : ℤ → List PlaceList → Type 0
IsLater docid [] = Unit {0}
IsLater docid (l ∷ ls) = docid <ℤ l.docid

later_lists : (docid : ℤ) (ds : List Document) (t : PlainTerm) → AllByRecursion (λ d. docid <ℤ d.docid) ds → IsLater docid (listed_for ds t)
unfolding IsLater
later_lists docid [] t later = tt
later_lists docid (d ∷ ds) t later = grind (arith, later_lists docid ds t later.1)

none_at : (docid : ℤ) (ls : List PlaceList) → IsLater docid ls → places_at docid ls ≡ []
unfolding IsLater
none_at docid [] later = refl
none_at docid (l ∷ ls) later = ap (λ b. cond b l.places []) (not_later docid l.docid later)

none_passed : (docid : ℤ) (ls : List PlaceList) → IsLater docid ls → passed docid ls ≡ ls
unfolding IsLater
none_passed docid [] later = refl
none_passed docid (l ∷ ls) later = ap (λ b. cond b ls (l ∷ ls)) (not_later docid l.docid later)

filled : (t : PlainTerm) (ps : List Posting) → is_filled (listed_places ps t) ≡ has_term ps t
filled t [] = refl
filled t (p ∷ ps) = grind (arith, filled t ps)

module _ (d : Document) (ds : List Document) (later : AllByRecursion (λ e. d.docid <ℤ e.docid) ds) (t : PlainTerm) where
  here : PlaceList
  here = places_with (is_listed t) d

  one_places : places_at d.docid (listed_for (d ∷ ds) t) ≡ listed_places d.postings t
  unfolding here
  one_places = grind (arith, nat_tests, here, itself d.docid, none_at d.docid (listed_for ds t) (later_lists d.docid ds t later))

  one_passed : passed d.docid (listed_for (d ∷ ds) t) ≡ listed_for ds t
  unfolding here
  one_passed = grind (arith, nat_tests, here, itself d.docid, none_passed d.docid (listed_for ds t) (later_lists d.docid ds t later))

  one_count : place_count (listed_for (d ∷ ds) t) ≡ length (listed_places d.postings t) + place_count (listed_for ds t)
  unfolding here
  one_count = grind (arith, common_steps, here)

-- ---- the lists of all terms

module _ (d : Document) (ds : List Document) (later : AllByRecursion (λ e. d.docid <ℤ e.docid) ds) where
  pub all_places : (ts : List PlainTerm) → map (places_at d.docid) (map (listed_for (d ∷ ds)) ts) ≡ map (listed_places d.postings) ts
  all_places [] = refl
  all_places (t ∷ ts) = simp (one_places d ds later t, all_places ts)

  pub all_passed : (ts : List PlainTerm) → map (passed d.docid) (map (listed_for (d ∷ ds)) ts) ≡ map (listed_for ds) ts
  all_passed [] = refl
  all_passed (t ∷ ts) = simp (one_passed d ds later t, all_passed ts)

  pub all_counted : (ts : List PlainTerm)
      → sum_by place_count (map (listed_for (d ∷ ds)) ts) ≡ sum_by length (map (listed_places d.postings) ts) + sum_by place_count (map (listed_for ds) ts)
  all_counted [] = refl
  all_counted (t ∷ ts) = grind (arith, nat_tests, all_counted ts, one_count, sum_by-cons, common_steps)

  -- the least docid so far is after the document, or there is none
  abbrev IsBehind : Option ℤ → Type 0
  IsBehind None = Unit {0}
  IsBehind (Some docid) = d.docid <ℤ docid

  -- in a list that may have the document first
  still_behind : (so_far : Option ℤ) (ls : List PlaceList) → IsBehind so_far → IsLater d.docid ls → IsBehind (least_of so_far ls)
  unfolding IsLater
  still_behind so_far [] behind later = behind
  still_behind None (l ∷ ls) behind later = later
  still_behind (Some docid) (l ∷ ls) behind later = grind arith

  found : (so_far : Option ℤ) (places : List Place) (ls : List PlaceList) → IsBehind so_far
      → least_of so_far (record { docid = d.docid; places = places } ∷ ls) ≡ Some d.docid
  found None places ls behind = refl
  found (Some docid) places ls behind = ap (λ v. cond v (Some d.docid) (Some docid)) (earlier d.docid docid behind).0

  stays_one : (ls : List PlaceList) → IsLater d.docid ls → least_of (Some d.docid) ls ≡ Some d.docid
  unfolding IsLater
  stays_one [] later = refl
  stays_one (l ∷ ls) later = ap (λ v. cond v (Some l.docid) (Some d.docid)) (earlier d.docid l.docid later).1

  stays : (t : PlainTerm) → least_of (Some d.docid) (listed_for (d ∷ ds) t) ≡ Some d.docid
  stays t = grind (arith, nat_tests, not_less d.docid, stays_one (listed_for ds t) (later_lists d.docid ds t later))

  stays_all : (ts : List PlainTerm) → least_from (Some d.docid) (map (listed_for (d ∷ ds)) ts) ≡ Some d.docid
  stays_all [] = refl
  stays_all (t ∷ ts) = ap (λ o. least_from o (map (listed_for (d ∷ ds)) ts)) (stays t) ∙ stays_all ts

  -- where the document has one of the terms, it is the least
  least_is : (so_far : Option ℤ) (ts : List PlainTerm) → IsBehind so_far → list_any (has_term d.postings) ts ≡ true
      → least_from so_far (map (listed_for (d ∷ ds)) ts) ≡ Some d.docid
  least_is so_far [] behind some = absurd (true≢false (sym some))
  least_is so_far (t ∷ ts) behind some =
      by (has_term d.postings t) refl (least_is (least_of so_far (listed_for ds t)) ts
      (still_behind so_far (listed_for ds t) behind (later_lists d.docid ds t later)))
    where
      by : (v : Bool) → has_term d.postings t ≡ v
          → (list_any (has_term d.postings) ts ≡ true → least_from (least_of so_far (listed_for ds t)) (map (listed_for (d ∷ ds)) ts) ≡ Some d.docid) →
          least_from (least_of so_far (listed_for (d ∷ ds) t)) (map (listed_for (d ∷ ds)) ts) ≡ Some d.docid
      by true is rest =
          rw (filled t d.postings ∙ is, found so_far (listed_places d.postings t) (listed_for ds t) behind) (stays_all ts)
      by false is rest =
          rw (filled t d.postings ∙ is) (rest (ap (λ b. b || list_any (has_term d.postings) ts) (sym is) ∙ some))

-- a document that has none of the terms is in none of their lists
pub unlisted : (d : Document) (ds : List Document) (ts : List PlainTerm) → list_any (has_term d.postings) ts ≡ false
    → map (listed_for (d ∷ ds)) ts ≡ map (listed_for ds) ts
unlisted d ds [] none = refl
unlisted d ds (t ∷ ts) none =
    let both = or_parts (has_term d.postings t) (list_any (has_term d.postings) ts) none in
    simp (filled t d.postings ∙ both.0, unlisted d ds ts both.1)

none_left : (ts : List PlainTerm) → least_from None (map (listed_for []) ts) ≡ None
none_left [] = refl
none_left (t ∷ ts) = none_left ts

-- ---- the next document

pub are_more : (d : Document) (ds : List Document) → AreDocuments (d ∷ ds) → AreDocuments ds
are_more d ds are = record {
  rising = pairs_tail (λ (a b : Document). a.docid <ℤ b.docid) d ds are.rising;
  filled = All-tail (λ (e : Document). e.postings ≢ []) d ds are.filled;
  ordered = All-tail (λ (e : Document). AllPairs IsBefore e.postings) d ds are.ordered;
}

-- No document is left that has one of the terms, or this one is the first.
pub data Next (tree : Tree) (documents : List Document) : Type 0 where
  Nothing : least_from None (lists_of tree documents) ≡ None → lists_of tree documents ≡ lists_of tree [] → hits_of tree documents ≡ []
      → candidate_count tree documents ≡ 0 → Next tree documents
  First : (d : Document) → (ds : List Document) → AreDocuments (d ∷ ds) → least_from None (lists_of tree documents) ≡ Some d.docid
      → lists_of tree documents ≡ lists_of tree (d ∷ ds) →
      hits_of tree documents ≡ hits_of tree (d ∷ ds) → candidate_count tree documents ≡ 1 + candidate_count tree ds → Next tree documents

counted : (tree : Tree) (d : Document) (ds : List Document)
    → candidate_count tree (d ∷ ds) ≡ cond (list_any (has_term d.postings) (terms_in tree)) 1 0 + candidate_count tree ds
counted tree d ds = sum_by-cons (λ (e : Document). cond (list_any (has_term e.postings) (terms_in tree)) 1 0) d ds

abbrev hit_in : Tree → Document → PlainHit
hit_in tree d = record { docid = d.docid; offsets = offsets_of d.postings tree }

-- the hits with and without a document
pub without_it : (tree : Tree) (d : Document) (ds : List Document) → accepts d.postings tree ≡ false → hits_of tree (d ∷ ds) ≡ hits_of tree ds
without_it tree d ds is = ap (λ v. map (hit_in tree) (cond v (d ∷ filter (λ e. accepts e.postings tree) ds) (filter (λ e. accepts e.postings tree) ds))) is

pub next_of : (tree : Tree) (documents : List Document) → AreDocuments documents → Next tree documents
next_of tree [] are = Nothing (none_left (terms_in tree)) refl refl refl
next_of tree (d ∷ ds) are = by (list_any (has_term d.postings) (terms_in tree)) refl (next_of tree ds (are_more d ds are))
  where
    by : (v : Bool) → list_any (has_term d.postings) (terms_in tree) ≡ v → Next tree ds → Next tree (d ∷ ds)
    by true is next =
        let later = recursion_from_All (λ (e : Document). d.docid <ℤ e.docid) ds (pairs_head (λ (a b : Document). a.docid <ℤ b.docid) d ds are.rising) in
        First d ds are (least_is d ds later None (terms_in tree) tt is) refl refl (counted tree d ds ∙ ap (λ v. cond v 1 0 + candidate_count tree ds) is)
    by false is (Nothing least same hits count) =
        let lists = unlisted d ds (terms_in tree) is in
        let more = counted tree d ds ∙ ap (λ v. cond v 1 0 + candidate_count tree ds) is in
        Nothing (ap (least_from None) lists ∙ least) (lists ∙ same) ((without_it tree d ds (accepts_none d.postings tree is)) ∙ hits) (omega arith)
    by false is (First e es are_next least same hits count) =
        let lists = unlisted d ds (terms_in tree) is in
        let here = without_it tree d ds (accepts_none d.postings tree is) in
        let more = counted tree d ds ∙ ap (λ v. cond v 1 0 + candidate_count tree ds) is in
        First e es are_next (ap (least_from None) lists ∙ least) (lists ∙ same) (here ∙ hits) (omega arith)
