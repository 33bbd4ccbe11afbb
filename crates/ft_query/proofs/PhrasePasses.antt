-- The passes over the lists of a phrase's terms give its occurrences, and the places of its terms
-- in them.
use Rattle.std.proofs.Common.{◌≡◌, ℕ, ◌+◌, ◌<◌, ◌==◌, ◌&&◌, ◌||◌, Bool, true, false, cond, List, [], ◌∷◌, ◌⊎◌, refl, sym, ap, ◌∙◌, arith, filter, Ordering, Less, Equal, Greater, not, map, AllPairs, Option, add-zero, rules}
use Rattle.std.proofs.Math.Bool.{and-true, and-false, or-false}
use Rattle.ft_query.proofs.Common.{list_any, AllByRecursion, match_ordering, nat_tests, Place, place_order, seek, among, recursion_from_All, Posting, IsBefore, PlainTerm, listed_places, is_listed, fits, takes, take_row, is_within, places_of, occurs, occurrences, PlainPhrase, shifted, taken_in, marks_from, may_begin, followed, starts_from}
use Rattle.ft_match.proofs.{pairs_head, pairs_tail}

-- ---- what the passes over rising places keep

-- an earlier column, or an earlier position of one column, where a is moved by i and b by j
abbrev Earlier : ℕ → Place → ℕ → Place → Type 0
Earlier i a j b = (a.column < b.column) ⊎ ((a.column ≡ b.column) × (a.pos + i < b.pos + j))

abbrev pub Before : Place → Place → Type 0
Before a b = (a.column < b.column) ⊎ ((a.column ≡ b.column) × (a.pos < b.pos))

abbrev pub Rising : List Place → Type 0
Rising [] = Unit {0}
Rising (x ∷ xs) = AllByRecursion (Before x) xs × Rising xs

-- the same place, where y is moved by j and x by i
abbrev pub meets : ℕ → ℕ → Place → Place → Bool
meets i j x y = y.column == x.column && y.pos + j == x.pos + i

-- ---- the order of two places

abbrev Ordered : ℕ → Place → ℕ → Place → Ordering → Type 0
Ordered j y i x Less = Earlier j y i x
Ordered j y i x Equal = meets i j x y ≡ true
Ordered j y i x Greater = Earlier i x j y

ordered : (j : ℕ) (y : Place) (i : ℕ) (x : Place) → Ordered j y i x (place_order j y i x)
ordered j y i x = grind arith

earlier_apart : (j : ℕ) (y : Place) (i : ℕ) (x : Place) → Earlier j y i x → meets i j x y ≡ false
earlier_apart j y i x earlier = grind (arith, nat_tests)

later_apart : (j : ℕ) (y : Place) (i : ℕ) (x : Place) → Earlier i x j y → meets i j x y ≡ false
later_apart j y i x later = grind (arith, nat_tests)

earlier_before : (j : ℕ) (y : Place) (i : ℕ) (x z : Place) → Earlier j y i x → Before x z → Earlier j y i z
earlier_before j y i x z earlier before = grind arith

met_before : (j : ℕ) (y : Place) (i : ℕ) (x z : Place) → meets i j x y ≡ true → Before x z → meets i j z y ≡ false
met_before j y i x z e before = grind (arith, nat_tests)

-- ---- the places that are among others

none_met : (i j : ℕ) (x : Place) (ys : List Place) → AllByRecursion (Earlier i x j) ys → list_any (meets i j x) ys ≡ false
none_met i j x [] all = refl
none_met i j x (y ∷ ys) all = ap (λ b. b || list_any (meets i j x) ys) (later_apart j y i x all.0) ∙ none_met i j x ys all.1

all_earlier : (i j : ℕ) (x y : Place) (ys : List Place) → Earlier i x j y → AllByRecursion (Before y) ys → AllByRecursion (Earlier i x j) ys
all_earlier i j x y [] h all = tt
all_earlier i j x y (z ∷ zs) h all = (earlier_before i x j y z h all.0, all_earlier i j x y zs h all.1)

-- what a pass up to a place leaves
record Left (i j : ℕ) (x : Place) (ys : List Place) (r : Bool × List Place) : Type 0 where
  found : r.0 ≡ list_any (meets i j x) ys
  rising : Rising r.1
  later : (z : Place) → Before x z → list_any (meets i j z) r.1 ≡ list_any (meets i j z) ys

left_one : (i j : ℕ) (x y : Place) (ys : List Place) (more : Bool × List Place) (o : Ordering) → Ordered j y i x o → AllByRecursion (Before y) ys → Rising ys
    → Left i j x ys more → Left i j x (y ∷ ys) (match_ordering o more (true, ys) (false, y ∷ ys))
left_one i j x y ys more Less is first rising rest = record {
  found = rest.found ∙ sym (ap (λ b. b || list_any (meets i j x) ys) (earlier_apart j y i x is));
  rising = rest.rising;
  later = λ z h. rest.later z h ∙ sym (ap (λ b. b || list_any (meets i j z) ys) (earlier_apart j y i z (earlier_before j y i x z is h)));
}
left_one i j x y ys more Equal is first rising rest = record {
  found = sym (ap (λ b. b || list_any (meets i j x) ys) is);
  rising = rising;
  later = λ z h. sym (ap (λ b. b || list_any (meets i j z) ys) (met_before j y i x z is h));
}
left_one i j x y ys more Greater is first rising rest = record {
  found = sym (ap (λ b. b || list_any (meets i j x) ys) (later_apart j y i x is) ∙ none_met i j x ys (all_earlier i j x y ys is first));
  rising = (first, rising);
  later = λ z h. refl;
}

left_by : (i j : ℕ) (x : Place) (ys : List Place) → Rising ys → Left i j x ys (seek i x j ys)
left_by i j x [] rising = record { found = refl; rising = tt; later = λ z h. refl }
left_by i j x (y ∷ ys) rising = left_one i j x y ys (seek i x j ys) (place_order j y i x) (ordered j y i x) rising.0 rising.1 (left_by i j x ys rising.1)

-- two tests that agree on the elements keep the same ones
pub filter_same : {X : Type 0} (p q : X → Bool) (xs : List X) → AllByRecursion (λ x. p x ≡ q x) xs → filter p xs ≡ filter q xs
filter_same p q [] all = refl
filter_same p q (x ∷ xs) all = ap (λ b. cond b (x ∷ filter p xs) (filter p xs)) all.0 ∙ ap (λ rest. cond (q x) (x ∷ rest) rest) (filter_same p q xs all.1)

pub all_weaker : {X : Type 0} (P Q : X → Type 0) (xs : List X) → ((x : X) → P x → Q x) → AllByRecursion P xs → AllByRecursion Q xs
all_weaker P Q [] f all = tt
all_weaker P Q (x ∷ xs) f all = (f x all.0, all_weaker P Q xs f all.1)

-- of rising places those that are among others are kept
pub among_is : (i j : ℕ) (xs ys : List Place) → Rising xs → Rising ys → among i j xs ys ≡ filter (λ x. list_any (meets i j x) ys) xs
among_is i j [] ys first second = refl
among_is i j (x ∷ xs) ys first second =
    let r = seek i x j ys in
    let left = left_by i j x ys second in
    let rest =
    among_is i j xs r.1 first.1 left.rising
    ∙ filter_same (λ z. list_any (meets i j z) r.1) (λ z. list_any (meets i j z) ys) xs
    (all_weaker (Before x) (λ z. list_any (meets i j z) r.1 ≡ list_any (meets i j z) ys) xs left.later first.0) in
    simp (left.found, rest)

-- ---- occurrences from the lists of places of a phrase's terms

-- the places that a term takes
abbrev pub term_places : List Posting → PlainTerm → List Place
term_places postings t = map (λ p. p.place) (filter (λ p. fits t p.term p.place.pos) postings)

-- a first term takes position 0 alone
abbrev pub may_take : PlainTerm → Place → Bool
may_take t at = not t.first || at.pos == 0

-- what a term takes is what its list answers, of which a first term keeps position 0
pub places_by_list : (postings : List Posting) (t : PlainTerm) → filter (may_take t) (listed_places postings t) ≡ term_places postings t
places_by_list [] t = refl
places_by_list (p ∷ ps) t = grind (arith, places_by_list ps t)

abbrev pub stands : ℕ → ℕ → Place → Bool
stands column pos at = at.column == column && at.pos == pos

-- each list has the place, one position after the other
abbrev pub follow : List (List Place) → ℕ → ℕ → Bool
follow [] column pos = true
follow (l ∷ ls) column pos = list_any (stands column pos) l && follow ls column (pos + 1)

-- the occurrences of a phrase with this filter, whose terms have these places
abbrev pub joined : Option ℕ → List (List Place) → List Place
joined only [] = []
joined only (l ∷ ls) = filter (λ at. is_within only at.column && follow ls at.column (at.pos + 1)) l

-- a term takes a token exactly where its list has the place
pub takes_by_list : (postings : List Posting) (t : PlainTerm) (column pos : ℕ)
    → list_any (stands column pos) (term_places postings t) ≡ takes postings t column pos
takes_by_list [] t column pos = refl
takes_by_list (p ∷ ps) t column pos = grind (arith, takes_by_list ps t column pos)

-- terms one after the other take tokens exactly where their lists follow one another
pub row_by_lists : (postings : List Posting) (ts : List PlainTerm) (column pos : ℕ)
    → follow (map (term_places postings) ts) column pos ≡ take_row postings ts column pos
row_by_lists postings [] column pos = refl
row_by_lists postings (t ∷ ts) column pos = grind (arith, nat_tests, takes_by_list postings t column pos, row_by_lists postings ts column (pos + 1))

-- ---- one posting at a place

-- two postings of which one is before the other stand at two places
apart : (p q : Posting) (f : Bool) → IsBefore p q ⊎ IsBefore q p → (p.place.column == q.place.column && p.place.pos == q.place.pos && f) ≡ false
apart p q f order = grind arith

none_takes : (p : Posting) (ps : List Posting) (t : PlainTerm) → AllByRecursion (IsBefore p) ps → takes ps t p.place.column p.place.pos ≡ false
none_takes p [] t later = refl
none_takes p (q ∷ qs) t later = grind (arith, none_takes p qs t later.1)

-- at the place of a posting a term takes that posting or none
unfoldable pub TakesHere : List Posting → PlainTerm → Posting → Type 0
TakesHere postings t q = takes postings t q.place.column q.place.pos ≡ fits t q.term q.place.pos

one_more : (p : Posting) (ps qs : List Posting) (t : PlainTerm) → AllByRecursion (IsBefore p) qs → AllByRecursion (TakesHere ps t) qs
    → AllByRecursion (TakesHere (p ∷ ps) t) qs
unfolding TakesHere
one_more p ps [] t later here = tt
one_more p ps (q ∷ qs) t later here = grind (arith, one_more p ps qs t later.1 here.1)

same_place : (p : Posting) (f : Bool) → (p.place.column == p.place.column && p.place.pos == p.place.pos && f) ≡ f
same_place p f = grind arith

pub takes_here : (postings : List Posting) (t : PlainTerm) → AllPairs IsBefore postings → AllByRecursion (TakesHere postings t) postings
unfolding TakesHere
takes_here [] t ordered = tt
takes_here (p ∷ ps) t ordered =
    let later = recursion_from_All (IsBefore p) ps (pairs_head IsBefore p ps ordered) in (
      ap (λ b. b || takes ps t p.place.column p.place.pos) (same_place p (fits t p.term p.place.pos))
          ∙ ap (λ b. fits t p.term p.place.pos || b) (none_takes p ps t later) ∙ or-false (fits t p.term p.place.pos),
      one_more p ps ps t later (takes_here ps t (pairs_tail IsBefore p ps ordered)),
    )

-- ---- joined lists

abbrev occurs_at : List Posting → Option ℕ → PlainTerm → List PlainTerm → Place → Bool
occurs_at postings only t ts at = occurs postings (record { filter = only; terms = t ∷ ts }) at.column at.pos

abbrev joins_at : List Posting → Option ℕ → List PlainTerm → Place → Bool
joins_at postings only ts at = is_within only at.column && follow (map (term_places postings) ts) at.column (at.pos + 1)

joined_part : (postings : List Posting) (only : Option ℕ) (t : PlainTerm) (ts : List PlainTerm) (ps : List Posting)
    → AllByRecursion (λ q. takes postings t q.place.column q.place.pos ≡ fits t q.term q.place.pos) ps →
    filter (joins_at postings only ts) (map (λ q. q.place) (filter (λ q. fits t q.term q.place.pos) ps)) ≡ filter (occurs_at postings only t ts) (places_of ps)
joined_part postings only t ts [] here = refl
joined_part postings only t ts (p ∷ ps) here =
    grind (arith, nat_tests, fits t p.term p.place.pos, joined_part postings only t ts ps here.1, row_by_lists, and-true, and-false)

-- a phrase without terms occurs nowhere
none_occurs : (postings ps : List Posting) (only : Option ℕ)
    → filter (λ at. occurs postings (record { filter = only; terms = [] }) at.column at.pos) (places_of ps) ≡ []
none_occurs postings [] only = refl
none_occurs postings (p ∷ ps) only = grind (arith, none_occurs postings ps only)

-- a phrase's occurrences are its terms' lists joined
pub occurrences_by_lists : (postings : List Posting) (only : Option ℕ) (terms : List PlainTerm) → AllPairs IsBefore postings
    → joined only (map (term_places postings) terms) ≡ occurrences postings (record { filter = only; terms = terms })
unfolding TakesHere
occurrences_by_lists postings only [] ordered = sym (none_occurs postings postings only)
occurrences_by_lists postings only (t ∷ ts) ordered = joined_part postings only t ts postings (takes_here postings t ordered)

-- ---- rising places

pub all_filter : {X : Type 0} (P : X → Type 0) (p : X → Bool) (xs : List X) → AllByRecursion P xs → AllByRecursion P (filter p xs)
all_filter P p [] all = tt
all_filter P p (x ∷ xs) all = grind (arith, all_filter P p xs all.1)

pub rising_filter : (p : Place → Bool) (xs : List Place) → Rising xs → Rising (filter p xs)
rising_filter p [] rising = tt
rising_filter p (x ∷ xs) rising = grind (arith, nat_tests, all_filter (Before x) p xs rising.0, rising_filter p xs rising.1)

before_place : (p q : Posting) → IsBefore p q → Before p.place q.place
before_place p q before = grind arith

listed_later : (p : Posting) (t : PlainTerm) (ps : List Posting) → AllByRecursion (IsBefore p) ps → AllByRecursion (Before p.place) (listed_places ps t)
listed_later p t [] all = tt
listed_later p t (q ∷ qs) all = grind (arith, listed_later p t qs all.1)

pub listed_rising : (postings : List Posting) (t : PlainTerm) → AllPairs IsBefore postings → Rising (listed_places postings t)
listed_rising [] t ordered = tt
listed_rising (p ∷ ps) t ordered =
    search (rules, listed_later p t ps (recursion_from_All (IsBefore p) ps (pairs_head IsBefore p ps ordered)), listed_rising ps t (pairs_tail IsBefore p ps ordered))

pub places_rising : (postings : List Posting) → AllPairs IsBefore postings → Rising (places_of postings)
places_rising [] ordered = tt
places_rising (p ∷ ps) ordered =
    (all_places p ps (recursion_from_All (IsBefore p) ps (pairs_head IsBefore p ps ordered)), places_rising ps (pairs_tail IsBefore p ps ordered))
  where
    all_places : (p : Posting) (ps : List Posting) → AllByRecursion (IsBefore p) ps → AllByRecursion (Before p.place) (places_of ps)
    all_places p [] all = tt
    all_places p (q ∷ qs) all = (before_place p q all.0, all_places p qs all.1)

pub occurrences_rising : (postings : List Posting) (p : PlainPhrase) → AllPairs IsBefore postings → Rising (occurrences postings p)
occurrences_rising postings p ordered = rising_filter (λ at. occurs postings p at.column at.pos) (places_of postings) (places_rising postings ordered)

-- ---- tests on lists

pub any_same : {X : Type 0} (p q : X → Bool) (xs : List X) → ((x : X) → p x ≡ q x) → list_any p xs ≡ list_any q xs
any_same p q [] same = refl
any_same p q (x ∷ xs) same = ap (λ b. b || list_any p xs) (same x) ∙ ap (λ b. q x || b) (any_same p q xs same)

any_filter : {X : Type 0} (p q : X → Bool) (xs : List X) → list_any p (filter q xs) ≡ list_any (λ x. q x && p x) xs
any_filter p q [] = refl
any_filter p q (x ∷ xs) = grind (arith, any_filter p q xs)

none_any : {X : Type 0} (xs : List X) → list_any (λ (x : X). false) xs ≡ false
none_any [] = refl
none_any (x ∷ xs) = none_any xs

filter_all : {X : Type 0} (xs : List X) → filter (λ (x : X). true) xs ≡ xs
filter_all [] = refl
filter_all (x ∷ xs) = ap (λ ls. x ∷ ls) (filter_all xs)

filter_none : {X : Type 0} (xs : List X) → filter (λ (x : X). false) xs ≡ []
filter_none [] = refl
filter_none (x ∷ xs) = filter_none xs

filter_filter : {X : Type 0} (p q : X → Bool) (xs : List X) → filter p (filter q xs) ≡ filter (λ x. q x && p x) xs
filter_filter p q [] = refl
filter_filter p q (x ∷ xs) = grind (arith, filter_filter p q xs)

pub filter_alike : {X : Type 0} (p q : X → Bool) (xs : List X) → ((x : X) → p x ≡ q x) → filter p xs ≡ filter q xs
filter_alike p q [] same = refl
filter_alike p q (x ∷ xs) same = ap (λ b. cond b (x ∷ filter p xs) (filter p xs)) (same x) ∙ ap (λ ls. cond (q x) (x ∷ ls) ls) (filter_alike p q xs same)

-- ---- the terms of a phrase, one after the other

not_first : (i : ℕ) (column pos : ℕ) (y : Place) → 0 < i → (y.pos == 0 && (y.column == column && y.pos == pos + i)) ≡ false
not_first i column pos y some = grind (arith, nat_tests)

one_test : (first : Bool) (i : ℕ) (starts list : List Place) → 0 < i → Rising starts → Rising list
    → cond first [] (among i 0 starts list) ≡ filter (λ at. list_any (stands at.column (at.pos + i)) (filter (λ y. not first || y.pos == 0) list)) starts
one_test true i starts list some rising listed =
    sym (filter_alike (λ at. list_any (stands at.column (at.pos + i)) (filter (λ y. y.pos == 0) list)) (λ at. false) starts
    (λ at. any_filter (stands at.column (at.pos + i)) (λ y. y.pos == 0) list ∙ any_same (λ y. y.pos == 0 && stands at.column (at.pos + i) y) (λ y. false) list
    (λ y. not_first i at.column at.pos y some) ∙ none_any list)
    ∙ filter_none starts)
one_test false i starts list some rising listed =
    among_is i 0 starts list rising listed
    ∙ filter_alike (λ at. list_any (meets i 0 at) list) (λ at. list_any (stands at.column (at.pos + i)) (filter (λ y. true) list)) starts
    (λ at. any_same (meets i 0 at) (stands at.column (at.pos + i)) list (λ y. ap (λ n. y.column == at.column && n == at.pos + i) (add-zero y.pos)) ∙ sym
    (ap (list_any (stands at.column (at.pos + i))) (filter_all list)))

next_pos : (pos i : ℕ) → pos + (i + 1) ≡ pos + i + 1
next_pos pos i = omega arith

followed_is : (postings : List Posting) (i : ℕ) (ts : List PlainTerm) (starts : List Place) → AllPairs IsBefore postings → 0 < i → Rising starts
    → followed i ts (map (listed_places postings) ts) starts ≡ filter (λ at. follow (map (term_places postings) ts) at.column (at.pos + i)) starts
followed_is postings i [] starts ordered some rising = sym (filter_all starts)
followed_is postings i (t ∷ ts) starts ordered some rising =
    let here = λ (at : Place). list_any (stands at.column (at.pos + i)) (filter (may_take t) (listed_places postings t)) in
    let rest = map (term_places postings) ts in
    ap (followed (i + 1) ts (map (listed_places postings) ts))
    (one_test t.first i starts (listed_places postings t) some rising (listed_rising postings t ordered))
    ∙ followed_is postings (i + 1) ts (filter here starts) ordered (omega arith) (rising_filter here starts rising)
    ∙ filter_filter (λ at. follow rest at.column (at.pos + (i + 1))) here starts
    ∙ filter_alike (λ at. here at && follow rest at.column (at.pos + (i + 1)))
    (λ at. list_any (stands at.column (at.pos + i)) (term_places postings t) && follow rest at.column (at.pos + i + 1)) starts
    (λ at. ap (λ l. list_any (stands at.column (at.pos + i)) l && follow rest at.column (at.pos + (i + 1))) (places_by_list postings t) ∙ ap
    (λ n. list_any (stands at.column (at.pos + i)) (term_places postings t) && follow rest at.column n) (next_pos at.pos i))

turned : (w m f : Bool) → ((w && m) && f) ≡ (m && (w && f))
turned true m f = refl
turned false true f = refl
turned false false f = refl

-- the passes give a phrase's occurrences
pub starts_are : (postings : List Posting) (only : Option ℕ) (ts : List PlainTerm) → AllPairs IsBefore postings
    → starts_from only ts (map (listed_places postings) ts) ≡ occurrences postings (record { filter = only; terms = ts })
starts_are postings only [] ordered = occurrences_by_lists postings only [] ordered
starts_are postings only (t ∷ ts) ordered =
    let list = listed_places postings t in
    let after = λ (at : Place). follow (map (term_places postings) ts) at.column (at.pos + 1) in
    followed_is postings 1 ts (filter (may_begin only t.first) list) ordered (omega arith)
    (rising_filter (may_begin only t.first) list (listed_rising postings t ordered))
    ∙ filter_filter after (may_begin only t.first) list
    ∙ filter_alike (λ at. may_begin only t.first at && after at) (λ at. may_take t at && (is_within only at.column && after at)) list
    (λ at. turned (is_within only at.column) (may_take t at) (after at))
    ∙ sym (filter_filter (λ at. is_within only at.column && after at) (may_take t) list)
    ∙ ap (filter (λ at. is_within only at.column && after at)) (places_by_list postings t)
    ∙ occurrences_by_lists postings only (t ∷ ts) ordered

-- ---- the places of the terms in the occurrences that count

-- the same members, as tests see it
abbrev pub Alike : List Place → List Place → Type 0
Alike xs ys = (p : Place → Bool) → list_any p xs ≡ list_any p ys

witness : {X : Type 0} (p : X → Bool) (Q : X → Type 0) (xs : List X) → AllByRecursion Q xs → list_any p xs ≡ true → (x : X) × (p x ≡ true) × Q x
witness p Q [] all e = cc
witness p Q (x ∷ xs) all e = grind (arith, witness p Q xs all.1)

abbrev follows : ℕ → Place → Place → Bool
follows i at start = start.column == at.column && start.pos + i == at.pos

-- the terms from this one on take the tokens from here on
abbrev pub Takes : List Posting → ℕ → List PlainTerm → Place → Type 0
Takes postings i ts s = take_row postings ts s.column (s.pos + i) ≡ true

at_place : (i : ℕ) (at start : Place) → follows i at start ≡ true → (start.column ≡ at.column) × (start.pos + i ≡ at.pos)
at_place i at start e = (grind (arith, nat_tests), grind (arith, nat_tests))

-- a place after an occurrence is in the term's list
listed_here : (postings : List Posting) (i : ℕ) (t : PlainTerm) (ts : List PlainTerm) (starts : List Place) (q : Posting)
    → AllByRecursion (Takes postings i (t ∷ ts)) starts
    → takes postings t q.place.column q.place.pos ≡ fits t q.term q.place.pos → list_any (follows i q.place) starts ≡ true → is_listed t q.term ≡ true
listed_here postings i t ts starts q all here some = grind (arith, nat_tests, witness, at_place)

-- a test that passes only where the term is listed keeps the same of its list as of all places
kept_of_list : (t : PlainTerm) (p : Place → Bool) (ps : List Posting) → AllByRecursion (λ q. p q.place ≡ true → is_listed t q.term ≡ true) ps
    → filter p (listed_places ps t) ≡ filter p (places_of ps)
kept_of_list t p [] all = refl
kept_of_list t p (q ∷ qs) all = grind (arith, kept_of_list t p qs all.1)

all_listed : (postings : List Posting) (i : ℕ) (t : PlainTerm) (ts : List PlainTerm) (starts : List Place) (ps : List Posting)
    → AllByRecursion (Takes postings i (t ∷ ts)) starts
    → AllByRecursion (TakesHere postings t) ps → AllByRecursion (λ q. list_any (follows i q.place) starts ≡ true → is_listed t q.term ≡ true) ps
unfolding TakesHere
all_listed postings i t ts starts [] all here = tt
all_listed postings i t ts starts (q ∷ qs) all here = (listed_here postings i t ts starts q all here.0, all_listed postings i t ts starts qs all here.1)

next_takes : (postings : List Posting) (i : ℕ) (t : PlainTerm) (ts : List PlainTerm) (starts : List Place) → AllByRecursion (Takes postings i (t ∷ ts)) starts
    → AllByRecursion (Takes postings (i + 1) ts) starts
next_takes postings i t ts [] all = tt
next_takes postings i t ts (s ∷ ss) all = grind (arith, next_takes postings i t ts ss all.1)

-- the places of each term's list in the occurrences are those that the term takes
pub marks_are : (postings : List Posting) (i : ℕ) (ts : List PlainTerm) (starts counted : List Place) → AllPairs IsBefore postings → Rising starts
    → AllByRecursion (Takes postings i ts) starts → Alike starts counted
    → marks_from i (map (listed_places postings) ts) starts ≡ taken_in postings i ts counted
marks_are postings i [] starts counted ordered rising all alike = refl
marks_are postings i (t ∷ ts) starts counted ordered rising all alike =
    let list = listed_places postings t in
    let one : among 0 i list starts ≡ shifted postings i counted =
    among_is 0 i list starts (listed_rising postings t ordered) rising
    ∙ filter_alike (λ at. list_any (meets 0 i at) starts) (λ at. list_any (follows i at) starts) list
    (λ at. any_same (meets 0 i at) (follows i at) starts (λ s. ap (λ n. s.column == at.column && s.pos + i == n) (add-zero at.pos)))
    ∙ kept_of_list t (λ at. list_any (follows i at) starts) postings (all_listed postings i t ts starts postings all (takes_here postings t ordered))
    ∙ filter_alike (λ at. list_any (follows i at) starts) (λ at. list_any (follows i at) counted) (places_of postings) (λ at. alike (follows i at)) in
    ap (λ l. l ∷ marks_from (i + 1) (map (listed_places postings) ts) starts) one
    ∙ ap (λ ls. shifted postings i counted ∷ ls) (marks_are postings (i + 1) ts starts counted ordered rising (next_takes postings i t ts starts all) alike)

-- the terms of an occurrence take the tokens from it on
pub occurrences_take : (postings : List Posting) (p : PlainPhrase) (ps : List Place)
    → AllByRecursion (Takes postings 0 p.terms) (filter (λ at. occurs postings p at.column at.pos) ps)
occurrences_take postings p [] = tt
occurrences_take postings p (s ∷ ss) = grind (arith, occurrences_take postings p ss)
