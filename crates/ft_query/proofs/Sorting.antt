-- The marks of a query's terms, sorted, are the offsets of the document.
use Rattle.std.proofs.Common.{◌≡◌, ℕ, ◌+◌, ◌<◌, ◌==◌, ◌&&◌, Bool, true, false, cond, List, [], ◌∷◌, ◌++◌, ◌⊎◌, inl, inr, length, map, drop, get_or, suc, refl, sym, subst, arith, ⊎_elim, AllPairs, Contains, Some, None, filter, filter_map, IsPermutation, IsSortedBy}
use Rattle.std.specs.List.{IsDistinct}
use Rattle.std.proofs.lemmas.List.Sorted.{Contains-permutation, IsPermutation-sym}
use Rattle.std.proofs.lemmas.Map.Keys.{IsDistinct-cons, IsDistinct-head, IsDistinct-tail, IsDistinct-IsPermutation}
use Rattle.ft_query.proofs.Common.{AllByRecursion, list_any, enumerate_from, cons_option, nat_tests, All-nil, All-cons, All-weaker, All-from_recursion, recursion_from_All, Contains-append_left, Contains-append_right, Contains-append_cases, AllPairs-cons, Place, Offset, Posting, IsBefore, PlainTerm, PlainLink, Tree, phrase, chain, both, either, without, is_at, offsets_at, offsets_of, taken, taken_in, taken_links, places_of, heads, choices, occurrences, offset_at, numbered_offsets, precedes, common_steps}
use Rattle.ft_match.proofs.{pairs_head, pairs_tail, Rises, contains_cases, contains_head, contains_tail, only_offsets, contains_nothing, map_from, map_to, filter_from, flat_from, flat_to}
use Rattle.ft_query.proofs.PhrasePasses.{Before, Rising, all_weaker, all_filter, places_rising}
use Rattle.ft_query.proofs.ChainPasses.{any_to, any_from}

-- ---- sorted offsets that differ rise

abbrev same_key : Offset → Offset → Bool
same_key a b = a.column == b.column && a.place == b.place && a.term == b.term

key_flips : (a b : Offset) → same_key a b ≡ same_key b a
key_flips a b = grind arith

-- one that doesn't precede another and has another key comes after it
rises_after : (a b : Offset) → precedes b a ≡ false → same_key a b ≡ false → Rises a b
rises_after a b not_before differ = grind arith

rises_on : (a b c : Offset) → Rises a b → Rises b c → Rises a c
rises_on a b c before after = grind arith

-- each rises to the next
abbrev NextRise : List Offset → Type 0
NextRise os = (k : ℕ) (d : Offset) → suc k < length os → Rises (get_or os k d) (get_or os (suc k) d)

all_rise : (os : List Offset) → NextRise os → AllPairs Rises os
all_rise [] next = λ i j d before inside. absurd (omega arith)
all_rise (x ∷ []) next = AllPairs-cons Rises x [] (All-nil (Rises x)) (λ i j d before inside. absurd (omega arith))
all_rise (x ∷ y ∷ os) next =
    let rest = all_rise (y ∷ os) (λ k d h. next (suc k) d (omega arith)) in
    let first = next 0 x (omega arith) in
    AllPairs-cons Rises x (y ∷ os) (All-cons (Rises x) y os first
    (All-weaker (Rises y) (Rises x) (λ z. rises_on x y z first) os (pairs_head Rises y os rest))) rest

distinct_pairs : (os : List Offset) → IsDistinct same_key os → AllPairs (λ x y. same_key x y ≡ false) os
distinct_pairs [] distinct = λ i j d before inside. absurd (omega arith)
distinct_pairs (x ∷ os) distinct =
    AllPairs-cons (λ x y. same_key x y ≡ false) x os (All-from_recursion (λ y. same_key x y ≡ false) os (IsDistinct-head same_key x os distinct))
    (distinct_pairs os (IsDistinct-tail same_key x os distinct))

sorted_rise : (os : List Offset) → IsSortedBy precedes os → IsDistinct same_key os → AllPairs Rises os
sorted_rise os sorted distinct = all_rise os (λ k d h.
    let one : k + 1 ≡ suc k = omega arith in
    let not_before : precedes (get_or os (suc k) d) (get_or os k d) ≡ false =
    subst (λ n. precedes (get_or os n d) (get_or os k d) ≡ false) one (sorted k d (omega arith) (omega arith)) in
    rises_after (get_or os k d) (get_or os (suc k) d) not_before (distinct_pairs os distinct k (suc k) d (omega arith) h))

-- ---- the marks differ

abbrev StartsBefore : Place → Place → Type 0
StartsBefore a b = (a.column < b.column) ⊎ ((a.column ≡ b.column) × (a.start < b.start))

abbrev StartsRise : List Place → Type 0
StartsRise [] = Unit {0}
StartsRise (x ∷ xs) = AllByRecursion (StartsBefore x) xs × StartsRise xs

starts_filter : (p : Place → Bool) (xs : List Place) → StartsRise xs → StartsRise (filter p xs)
starts_filter p [] rise = tt
starts_filter p (x ∷ xs) rise = grind (arith, nat_tests, all_filter (StartsBefore x) p xs rise.0, starts_filter p xs rise.1)

starts_before : (p q : Posting) → IsBefore p q → StartsBefore p.place q.place
starts_before p q (inl h) = inl h
starts_before p q (inr h) = inr (h.0, h.2)

all_start : (p : Posting) (ps : List Posting) → AllByRecursion (IsBefore p) ps → AllByRecursion (StartsBefore p.place) (places_of ps)
all_start p [] all = tt
all_start p (q ∷ qs) all = (starts_before p q all.0, all_start p qs all.1)

starts_rise : (postings : List Posting) → AllPairs IsBefore postings → StartsRise (places_of postings)
starts_rise [] ordered = tt
starts_rise (p ∷ ps) ordered =
    (all_start p ps (recursion_from_All (IsBefore p) ps (pairs_head IsBefore p ps ordered)), starts_rise ps (pairs_tail IsBefore p ps ordered))

places_differ : (n : ℕ) (a b : Place) → StartsBefore a b → same_key (offset_at n a) (offset_at n b) ≡ false
places_differ n a b before = grind (arith, nat_tests)

terms_differ : (n : ℕ) (a : Place) (o : Offset) → n < o.term → same_key (offset_at n a) o ≡ false
terms_differ n a o h = grind (arith, nat_tests)

all_differ : (n : ℕ) (x : Place) (xs : List Place) (rest : List Offset) → AllByRecursion (StartsBefore x) xs → AllByRecursion (λ o. n < o.term) rest
    → AllByRecursion (λ o. same_key (offset_at n x) o ≡ false) (map (offset_at n) xs ++ rest)
all_differ n x [] [] before above = tt
all_differ n x [] (o ∷ os) before above = (terms_differ n x o above.0, all_differ n x [] os before above.1)
all_differ n x (y ∷ ys) rest before above = (places_differ n x y before.0, all_differ n x ys rest before.1 above)

front_distinct : (n : ℕ) (m : List Place) (rest : List Offset) → StartsRise m → AllByRecursion (λ o. n < o.term) rest → IsDistinct same_key rest
    → IsDistinct same_key (map (offset_at n) m ++ rest)
front_distinct n [] rest rise above distinct = distinct
front_distinct n (x ∷ xs) rest rise above distinct =
    IsDistinct-cons same_key (offset_at n x) (map (offset_at n) xs ++ rest) (all_differ n x xs rest rise.0 above)
    (front_distinct n xs rest rise.1 above distinct)

terms_above : (k n : ℕ) (ms : List (List Place)) → k < n → AllByRecursion (λ o. k < o.term) (numbered_offsets n ms)
terms_above k n [] h = tt
terms_above k n (m ∷ ms) h = after m (terms_above k (n + 1) ms (omega arith))
  where
    after : (xs : List Place) → AllByRecursion (λ o. k < o.term) (numbered_offsets (n + 1) ms)
        → AllByRecursion (λ o. k < o.term) (map (offset_at n) xs ++ numbered_offsets (n + 1) ms)
    after [] rest = rest
    after (x ∷ xs) rest = (h, after xs rest)

marks_distinct : (n : ℕ) (ms : List (List Place)) → AllByRecursion StartsRise ms → IsDistinct same_key (numbered_offsets n ms)
unfolding IsDistinct
marks_distinct n [] all = tt
marks_distinct n (m ∷ ms) all = front_distinct n m (numbered_offsets (n + 1) ms) all.0 (terms_above n (n + 1) ms (omega arith)) (marks_distinct (n + 1) ms all.1)

-- ---- the marks are those of the document's places

-- an offset of a mark, whose terms have the numbers from n on
abbrev Marked : ℕ → List (List Place) → Offset → Type 0
Marked n [] o = ⊥
Marked n (m ∷ ms) o = ((at : Place) × Contains m at × (offset_at n at ≡ o)) ⊎ Marked (n + 1) ms o

numbered_marked : (n : ℕ) (ms : List (List Place)) (o : Offset) → Contains (numbered_offsets n ms) o → Marked n ms o
numbered_marked n [] o c = contains_nothing o c
numbered_marked n (m ∷ ms) o c = ⊎_elim
    (λ (here : Contains (map (offset_at n) m) o). inl (map_from (offset_at n) m o here))
    (λ (later : Contains (numbered_offsets (n + 1) ms) o). inr (numbered_marked (n + 1) ms o later))
    (Contains-append_cases (map (offset_at n) m) (numbered_offsets (n + 1) ms) o c)

marked_numbered : (n : ℕ) (ms : List (List Place)) (o : Offset) → Marked n ms o → Contains (numbered_offsets n ms) o
marked_numbered n [] o is = absurd is
marked_numbered n (m ∷ ms) o (inl is) =
    Contains-append_left (map (offset_at n) m) (numbered_offsets (n + 1) ms) o (subst (Contains (map (offset_at n) m)) is.2 (map_to (offset_at n) m is.0 is.1))
marked_numbered n (m ∷ ms) o (inr is) = Contains-append_right (map (offset_at n) m) (numbered_offsets (n + 1) ms) o (marked_numbered (n + 1) ms o is)

abbrev from_term : ℕ → List (List Place) → Place → List Offset
from_term n terms at =
    filter_map (λ t. cond (list_any (is_at at) t.1) (Some (record { column = at.column; term = t.0; place = at.start; size = at.size })) None)
    (enumerate_from n terms)

-- the marks are places of the document
abbrev Among : List Place → List Place → Type 0
Among places m = (at : Place) → Contains m at → Contains places at

is_at_itself : (at : Place) → is_at at at ≡ true
is_at_itself at = grind (arith, nat_tests)

at_same : (a b : Place) → is_at a b ≡ true → (a.column ≡ b.column) × (a.pos ≡ b.pos)
at_same a b e = (grind (arith, nat_tests), grind (arith, nat_tests))

not_before : (a b : Place) → Before a b → a.column ≡ b.column → a.pos ≡ b.pos → ⊥
not_before a b (inl h) columns places = omega arith
not_before a b (inr h) columns places = omega (arith, h.1)

-- one place at a column and position
one_place : (places : List Place) → Rising places → (a b : Place) → Contains places a → Contains places b → a.column ≡ b.column → a.pos ≡ b.pos → a ≡ b
one_place [] rising a b c d columns positions = absurd (contains_nothing a c)
one_place (x ∷ xs) rising a b c d columns positions = grind (arith, nat_tests, one_place xs rising.1 a b, not_before, contains_cases, common_steps)

at_place_marked : (places : List Place) → Rising places → (n : ℕ) (ms : List (List Place)) → AllByRecursion (Among places) ms → (at : Place)
    → Contains places at → (o : Offset) → Contains (from_term n ms at) o → Marked n ms o
at_place_marked places rising n [] all at here o c = contains_nothing o c
at_place_marked places rising n (m ∷ ms) all at here o c = by (list_any (is_at at) m) refl c (at_place_marked places rising (n + 1) ms all.1 at here o)
  where
    by : (b : Bool) → list_any (is_at at) m ≡ b → Contains (cons_option (cond b (Some (offset_at n at)) None) (from_term (n + 1) ms at)) o
        → (Contains (from_term (n + 1) ms at) o → Marked (n + 1) ms o) → Marked n (m ∷ ms) o
    by false is d rest = inr (rest d)
    by true is d rest = ⊎_elim
        (λ (first : offset_at n at ≡ o).
        let one = any_from (is_at at) m is in
        let same = at_same at one.0 one.2 in
        inl (at, subst (Contains m) (sym (one_place places rising at one.0 here (all.0 one.0 one.1) same.0 same.1)) one.1, first))
        (λ (later : Contains (from_term (n + 1) ms at) o). inr (rest later))
        (contains_cases (offset_at n at) o (from_term (n + 1) ms at) d)

marked_at_place : (places : List Place) (n : ℕ) (ms : List (List Place)) → AllByRecursion (Among places) ms → (o : Offset) → Marked n ms o
    → (at : Place) × Contains places at × Contains (from_term n ms at) o
marked_at_place places n [] all o is = absurd is
marked_at_place places n (m ∷ ms) all o (inl is) =
    grind (arith, nat_tests, any_to (is_at (is.0)) m (is.0) is.1 (is_at_itself (is.0)), contains_head (offset_at n (is.0)) (from_term (n + 1) ms (is.0)))
marked_at_place places n (m ∷ ms) all o (inr is) =
    let one = marked_at_place places (n + 1) ms all.1 o is in
    let at = one.0 in (
      at,
      one.1,
      elim (list_any (is_at at) m) as (λ b. Contains (cons_option (cond b (Some (offset_at n at)) None) (from_term (n + 1) ms at)) o) [
        | true ↦ contains_tail (offset_at n at) o (from_term (n + 1) ms at) one.2
        | false ↦ one.2
      ],
    )

-- ---- the marks of a query

-- some of the document's places, in order
abbrev Drawn : List Posting → List Place → Type 0
Drawn postings m = (p : Place → Bool) × (m ≡ filter p (places_of postings))

all_append : {X : Type 0} (P : X → Type 0) (xs ys : List X) → AllByRecursion P xs → AllByRecursion P ys → AllByRecursion P (xs ++ ys)
all_append P [] ys first second = second
all_append P (x ∷ xs) ys first second = (first.0, all_append P xs ys first.1 second)

phrase_drawn : (postings : List Posting) (i : ℕ) (ts : List PlainTerm) (starts : List Place) → AllByRecursion (Drawn postings) (taken_in postings i ts starts)
phrase_drawn postings i [] starts = tt
phrase_drawn postings i (t ∷ ts) starts = grind (arith, phrase_drawn postings (i + 1) ts starts)

links_drawn : (postings : List Posting) (cs : List (List Place)) (links : List PlainLink) → AllByRecursion (Drawn postings) (taken_links postings cs links)
links_drawn postings cs [] = tt
links_drawn postings cs (link ∷ links) =
    all_append (Drawn postings) (taken_in postings 0 link.to.terms (heads cs)) (taken_links postings (map (drop 1) cs) links)
    (phrase_drawn postings 0 link.to.terms (heads cs)) (links_drawn postings (map (drop 1) cs) links)

all_drawn : (postings : List Posting) (tree : Tree) → AllByRecursion (Drawn postings) (taken postings tree)
all_drawn postings (phrase p) = phrase_drawn postings 0 p.terms (occurrences postings p)
all_drawn postings (chain p links) =
    all_append (Drawn postings) (taken_in postings 0 p.terms (heads (choices postings p links)))
    (taken_links postings (map (drop 1) (choices postings p links)) links) (phrase_drawn postings 0 p.terms (heads (choices postings p links)))
    (links_drawn postings (map (drop 1) (choices postings p links)) links)
all_drawn postings (both p q) = all_append (Drawn postings) (taken postings p) (taken postings q) (all_drawn postings p) (all_drawn postings q)
all_drawn postings (either p q) = all_append (Drawn postings) (taken postings p) (taken postings q) (all_drawn postings p) (all_drawn postings q)
all_drawn postings (without p q) = all_drawn postings p

drawn_among : (postings : List Posting) (m : List Place) → Drawn postings m → Among (places_of postings) m
drawn_among postings m drawn = λ at c. (filter_from drawn.0 (places_of postings) at (subst (λ l. Contains l at) drawn.1 c)).0

drawn_rises : (postings : List Posting) → AllPairs IsBefore postings → (m : List Place) → Drawn postings m → StartsRise m
drawn_rises postings ordered m drawn = subst StartsRise (sym drawn.1) (starts_filter drawn.0 (places_of postings) (starts_rise postings ordered))

-- the marks of what a query's terms take, sorted, are its offsets
pub sorted_are : (postings : List Posting) (tree : Tree) (marks out : List Offset) → AllPairs IsBefore postings → marks ≡ numbered_offsets 0 (taken postings tree)
    → IsPermutation marks out → IsSortedBy precedes out → out ≡ offsets_of postings tree
sorted_are postings tree marks out ordered is permutation sorted =
    let ms = taken postings tree in
    let places = places_of postings in
    let drawn = all_drawn postings tree in
    let among = all_weaker (Drawn postings) (Among places) ms (drawn_among postings) drawn in
    let distinct =
    subst (IsDistinct same_key) (sym is) (marks_distinct 0 ms (all_weaker (Drawn postings) StartsRise ms (drawn_rises postings ordered) drawn)) in
    only_offsets postings tree out ordered (sorted_rise out sorted (IsDistinct-IsPermutation same_key key_flips marks out permutation distinct))
    (λ o c.
    let one =
    marked_at_place places 0 ms among o (numbered_marked 0 ms o
    (subst (λ os. Contains os o) is (Contains-permutation out marks o (IsPermutation-sym marks out permutation) c))) in
    flat_to (offsets_at ms) places one.0 o one.1 one.2)
    (λ o c.
    let one = flat_from (offsets_at ms) places o c in
    Contains-permutation marks out o permutation (subst (λ os. Contains os o) (sym is)
    (marked_numbered 0 ms o (at_place_marked places (places_rising postings ordered) 0 ms among one.0 one.1 o one.2))))
