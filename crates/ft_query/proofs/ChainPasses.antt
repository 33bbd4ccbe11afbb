-- The passes over the phrases of a chain, backwards and forwards, give the members of its choices.
use Rattle.std.proofs.Common.{◌≡◌, ℕ, ◌+◌, ◌<◌, ◌≤◌, ◌||◌, Bool, true, false, cond, List, [], ◌∷◌, ◌⊎◌, inl, inr, refl, sym, ap, ◌∙◌, arith, filter, ◌++◌, length, map, take, drop, AllPairs, subst, ⊎_elim, flat_map, Contains, append-nil}
use Rattle.std.proofs.Math.Bool.{or-false}
use Rattle.ft_query.proofs.Common.{list_any, AllByRecursion, nat_tests, Place, are_near, is_behind, skip_behind, begin_near, near_those, Posting, IsBefore, is_filled, PlainPhrase, Tree, phrase, chain, both, either, without, terms_in, accepts, taken, taken_in, occurrences, places_of, listed_places, is_accepted, marks_of, marks_from, starts_of, PlainTerm, PlainLink, IsChoice, choices, heads, taken_links, head_of, linked, link_marks}
use Rattle.ft_query.proofs.PhrasePasses.{Before, Rising, filter_same, all_weaker, starts_are, occurrences_rising, marks_are, occurrences_take, all_filter, rising_filter, any_same, filter_alike, Alike, Takes}
use Rattle.ft_match.proofs.{contains_cases, contains_head, contains_tail, contains_nothing, map_from, map_to, filter_from, filter_to, chosen}

-- ---- which occurrences the pass over two phrases' occurrences keeps

-- a begins too far after b to be near it
abbrev Beyond : ℕ → ℕ → Place → Place → Type 0
Beyond most m b a = (b.column < a.column) ⊎ ((a.column ≡ b.column) × (b.pos + m + most < a.pos))

-- a ends too far before b to be near it
abbrev Behind : ℕ → ℕ → Place → Place → Type 0
Behind most k a b = (a.column < b.column) ⊎ ((a.column ≡ b.column) × (a.pos + k + most < b.pos))

abbrev Within : ℕ → ℕ → Place → Place → Type 0
Within most k a b = (b.column < a.column) ⊎ ((a.column ≡ b.column) × (b.pos ≤ a.pos + k + most))

behind_is : (most k : ℕ) (a b : Place) → is_behind most k a b ≡ true → Behind most k a b
behind_is most k a b e = grind (arith, nat_tests)

within_is : (most k : ℕ) (a b : Place) → is_behind most k a b ≡ false → Within most k a b
within_is most k a b e = grind (arith, nat_tests)

behind_not_near : (most k m : ℕ) (a b : Place) → Behind most k a b → are_near most k a m b ≡ false
behind_not_near most k m a b behind = grind (arith, nat_tests)

behind_later : (most k : ℕ) (a b c : Place) → Behind most k a b → Before b c → Behind most k a c
behind_later most k a b c behind before = grind arith

beyond_later : (most m : ℕ) (b a c : Place) → Beyond most m b a → Before a c → Beyond most m b c
beyond_later most m b a c beyond before = grind arith

-- of two neighbours that aren't near, the second begins too far after
second_beyond : (most k m : ℕ) (a c b : Place) → Within most k a b → are_near most k a m b ≡ false → Before a c → are_near most k c m b ≡ false
    → Beyond most m b c
second_beyond most k m a c b (inl h) far (inl i) far_too = inl (omega arith)
second_beyond most k m a c b (inl h) far (inr i) far_too = let x = i.0 in inl (omega arith)
second_beyond most k m a c b (inr h) far (inl i) far_too = let x = h.0 in inl (omega arith)
second_beyond most k m a c b (inr h) far (inr i) far_too = grind arith

none_near : (most k m : ℕ) (b : Place) (near : List Place) → AllByRecursion (Beyond most m b) near → list_any (λ a. are_near most k a m b) near ≡ false
none_near most k m b [] all = refl
none_near most k m b (a ∷ more) all = grind (arith, none_near most k m b more all.1)

all_beyond : (most m : ℕ) (b a : Place) (more : List Place) → Beyond most m b a → AllByRecursion (Before a) more → AllByRecursion (Beyond most m b) more
all_beyond most m b a [] h all = tt
all_beyond most m b a (c ∷ more) h all = (beyond_later most m b a c h all.0, all_beyond most m b a more h all.1)

-- the first two decide
two_decide : (most k m : ℕ) (b a : Place) (more : List Place) → Within most k a b → AllByRecursion (Before a) more → Rising more
    → begin_near most k (a ∷ more) m b ≡ list_any (λ u. are_near most k u m b) (a ∷ more)
two_decide most k m b a [] within first rising = sym (or-false (are_near most k a m b))
two_decide most k m b a (c ∷ more) within first rising = by (are_near most k a m b) refl (are_near most k c m b) refl
  where
    by : (p : Bool) → are_near most k a m b ≡ p → (q : Bool) → are_near most k c m b ≡ q
        → (are_near most k a m b || are_near most k c m b) ≡ (are_near most k a m b || (are_near most k c m b || list_any (λ u. are_near most k u m b) more))
    by true e q f = ap (λ x. x || are_near most k c m b) e ∙ sym (ap (λ x. x || (are_near most k c m b || list_any (λ u. are_near most k u m b) more)) e)
    by false e true f = ap (λ y. are_near most k a m b || y) f ∙ sym (ap (λ y. are_near most k a m b || (y || list_any (λ u. are_near most k u m b) more)) f)
    by false e false f =
        ap (λ y. are_near most k a m b || y) f
        ∙ sym (ap (λ y. are_near most k a m b || (y || list_any (λ u. are_near most k u m b) more)) f ∙ ap (λ y. are_near most k a m b || y)
        (none_near most k m b more (all_beyond most m b c more (second_beyond most k m a c b within e first.0 f) rising.0)))

-- what a pass up to a place leaves
record Kept (most k m : ℕ) (near : List Place) (b : Place) (left : List Place) : Type 0 where
  decides : begin_near most k left m b ≡ list_any (λ a. are_near most k a m b) near
  rising : Rising left
  later : (c : Place) → Before b c → list_any (λ a. are_near most k a m c) left ≡ list_any (λ a. are_near most k a m c) near

kept_one : (most k m : ℕ) (a : Place) (more left : List Place) (b : Place) (behind : Bool) → is_behind most k a b ≡ behind → AllByRecursion (Before a) more
    → Rising more → Kept most k m more b left → Kept most k m (a ∷ more) b (cond behind left (a ∷ more))
kept_one most k m a more left b true is first rising rest =
    let far = behind_is most k a b is in
    record {
      decides = rest.decides ∙ sym (ap (λ t. t || list_any (λ u. are_near most k u m b) more) (behind_not_near most k m a b far));
      rising = rest.rising;
      later =
          λ c h. rest.later c h
          ∙ sym (ap (λ t. t || list_any (λ u. are_near most k u m c) more) (behind_not_near most k m a c (behind_later most k a b c far h)));
    }
kept_one most k m a more left b false is first rising rest = record {
  decides = two_decide most k m b a more (within_is most k a b is) first rising;
  rising = (first, rising);
  later = λ c h. refl;
}

kept_by : (most k m : ℕ) (near : List Place) (b : Place) → Rising near → Kept most k m near b (skip_behind most k near b)
kept_by most k m [] b rising = record { decides = refl; rising = tt; later = λ c h. refl }
kept_by most k m (a ∷ more) b rising =
    kept_one most k m a more (skip_behind most k more b) b (is_behind most k a b) refl rising.0 rising.1 (kept_by most k m more b rising.1)

-- of rising occurrences those that are near one of the others are kept
pub near_is : (most k : ℕ) (near : List Place) (m : ℕ) (bs : List Place) → Rising near → Rising bs
    → near_those most k near m bs ≡ filter (λ b. list_any (λ a. are_near most k a m b) near) bs
near_is most k near m [] first second = refl
near_is most k near m (b ∷ bs) first second =
    let left = skip_behind most k near b in
    let kept = kept_by most k m near b first in
    let all = λ (xs : List Place) (c : Place). list_any (λ a. are_near most k a m c) xs in
    let rest =
    near_is most k left m bs kept.rising second.1
    ∙ filter_same (all left) (all near) bs (all_weaker (Before b) (λ c. all left c ≡ all near c) bs kept.later second.0) in
    simp (kept.decides, rest)

-- ---- lists of terms

pub front_part : (L : PlainTerm → List Place) (ts more : List PlainTerm) → take (length ts) (map L (ts ++ more)) ≡ map L ts
front_part L [] more = refl
front_part L (t ∷ ts) more = ap (λ ls. L t ∷ ls) (front_part L ts more)

pub back_part : (L : PlainTerm → List Place) (ts more : List PlainTerm) → drop (length ts) (map L (ts ++ more)) ≡ map L more
back_part L [] more = refl
back_part L (t ∷ ts) more = back_part L ts more

-- ---- tests and members

pub any_to : {X : Type 0} (p : X → Bool) (xs : List X) (x : X) → Contains xs x → p x ≡ true → list_any p xs ≡ true
any_to p [] x c e = absurd (contains_nothing x c)
any_to p (y ∷ ys) x c e = grind (arith, any_to p ys x)

pub any_from : {X : Type 0} (p : X → Bool) (xs : List X) → list_any p xs ≡ true → (x : X) × Contains xs x × (p x ≡ true)
any_from p [] e = cc
any_from p (y ∷ ys) e = grind (arith, nat_tests, any_from p ys, contains_head y ys, contains_tail y)

same_bool : (a b : Bool) → (a ≡ true → b ≡ true) → (b ≡ true → a ≡ true) → a ≡ b
same_bool true b to from = sym (to refl)
same_bool false true to from = from refl
same_bool false false to from = refl

alike_by : (xs ys : List Place) → ((x : Place) → Contains xs x → Contains ys x) → ((x : Place) → Contains ys x → Contains xs x) → Alike xs ys
alike_by xs ys to from = λ p. same_bool (list_any p xs) (list_any p ys)
    (λ e. let one = any_from p xs e in any_to p ys one.0 (to one.0 one.1) one.2)
    (λ e. let one = any_from p ys e in any_to p xs one.0 (from one.0 one.1) one.2)

filled_to : {X : Type 0} (xs : List X) (x : X) → Contains xs x → is_filled xs ≡ true
filled_to [] x c = absurd (contains_nothing x c)
filled_to (y ∷ ys) x c = refl

filled_from : {X : Type 0} (xs : List X) → is_filled xs ≡ true → (x : X) × Contains xs x
filled_from [] e = cc
filled_from (y ∷ ys) e = (y, contains_head y ys)

heads_from : (cs : List (List Place)) (at : Place) → Contains (heads cs) at → (rest : List Place) × Contains cs (at ∷ rest)
heads_from [] at c = absurd (contains_nothing at c)
heads_from ([] ∷ cs) at c = let one = heads_from cs at c in (one.0, contains_tail [] (at ∷ one.0) cs one.1)
heads_from ((x ∷ choice) ∷ cs) at c =
    grind (arith, nat_tests, contains_head (x ∷ choice) cs, heads_from cs at, contains_tail (x ∷ choice), contains_cases x at)

heads_to : (cs : List (List Place)) (at : Place) (rest : List Place) → Contains cs (at ∷ rest) → Contains (heads cs) at
heads_to [] at rest c = absurd (contains_nothing (at ∷ rest) c)
heads_to ([] ∷ cs) at rest c = grind (arith, heads_to cs at rest)
heads_to ((x ∷ choice) ∷ cs) at rest c = ⊎_elim
    (λ (here : x ∷ choice ≡ at ∷ rest). let same : x ≡ at = cc in subst (Contains (x ∷ heads cs)) same (contains_head x (heads cs)))
    (λ (later : Contains cs (at ∷ rest)). contains_tail x at (heads cs) (heads_to cs at rest later))
    (contains_cases (x ∷ choice) (at ∷ rest) cs c)

-- ---- backwards

near_turned : (most k : ℕ) (a : Place) (m : ℕ) (b : Place) → are_near most m b k a ≡ are_near most k a m b
near_turned most k a m b = grind arith

abbrev near_from : PlainPhrase → PlainLink → Place → Place → Bool
near_from p link at b = are_near link.most (length p.terms) at (length link.to.terms) b

-- the occurrences of a chain's first phrase from which the others can be reached
abbrev reach : List Posting → PlainPhrase → List PlainLink → List Place
reach postings p [] = occurrences postings p
reach postings p (link ∷ links) = filter (λ at. list_any (near_from p link at) (reach postings link.to links)) (occurrences postings p)

reach_rising : (postings : List Posting) (p : PlainPhrase) (links : List PlainLink) → AllPairs IsBefore postings → Rising (reach postings p links)
reach_rising postings p [] ordered = occurrences_rising postings p ordered
reach_rising postings p (link ∷ links) ordered =
    rising_filter (λ at. list_any (near_from p link at) (reach postings link.to links)) (occurrences postings p) (occurrences_rising postings p ordered)

reach_takes : (postings : List Posting) (p : PlainPhrase) (links : List PlainLink) → AllByRecursion (Takes postings 0 p.terms) (reach postings p links)
reach_takes postings p [] = occurrences_take postings p (places_of postings)
reach_takes postings p (link ∷ links) =
    all_filter (Takes postings 0 p.terms) (λ at. list_any (near_from p link at) (reach postings link.to links)) (occurrences postings p)
    (occurrences_take postings p (places_of postings))

abbrev link_terms : List PlainLink → List PlainTerm
link_terms links = flat_map (λ link. link.to.terms) links

linked_are : (postings : List Posting) (p : PlainPhrase) (links : List PlainLink) → AllPairs IsBefore postings
    → head_of (linked p links (map (listed_places postings) (p.terms ++ link_terms links))) ≡ reach postings p links
linked_are postings p [] ordered = ap (λ ts. starts_of p (map (listed_places postings) ts)) (append-nil p.terms) ∙ starts_are postings p.filter p.terms ordered
linked_are postings p (link ∷ links) ordered =
    let L = listed_places postings in
    let more = link_terms (link ∷ links) in
    let lists = map L (p.terms ++ more) in
    let k = length p.terms in
    let m = length link.to.terms in
    let next = reach postings link.to links in
    let own : starts_of p (take k lists) ≡ occurrences postings p =
    ap (starts_of p) (front_part L p.terms more) ∙ starts_are postings p.filter p.terms ordered in
    let behind : head_of (linked link.to links (drop k lists)) ≡ next =
    ap (λ ls. head_of (linked link.to links ls)) (back_part L p.terms more) ∙ linked_are postings link.to links ordered in
    ap (λ s. near_those link.most m (head_of (linked link.to links (drop k lists))) k s) own
    ∙ ap (λ s. near_those link.most m s k (occurrences postings p)) behind
    ∙ near_is link.most m next k (occurrences postings p) (reach_rising postings link.to links ordered) (occurrences_rising postings p ordered)
    ∙ filter_alike (λ b. list_any (λ a. are_near link.most m a k b) next) (λ at. list_any (near_from p link at) next) (occurrences postings p)
    (λ at. any_same (λ a. are_near link.most m a k at) (near_from p link at) next (λ b. near_turned link.most k at m b))

reach_of_choice : (postings : List Posting) (p : PlainPhrase) (links : List PlainLink) (at : Place) (rest : List Place) → IsChoice postings p links (at ∷ rest)
    → Contains (reach postings p links) at
reach_of_choice postings p [] at rest is = is.0
reach_of_choice postings p (link ∷ links) at [] is = absurd is.2
reach_of_choice postings p (link ∷ links) at (b ∷ rest) is =
    filter_to (λ u. list_any (near_from p link u) (reach postings link.to links)) (occurrences postings p) at is.0
    (any_to (near_from p link at) (reach postings link.to links) b (reach_of_choice postings link.to links b rest is.2) is.1)

choice_of_reach : (postings : List Posting) (p : PlainPhrase) (links : List PlainLink) (at : Place) → Contains (reach postings p links) at
    → (rest : List Place) × IsChoice postings p links (at ∷ rest)
choice_of_reach postings p [] at c = ([], (c, refl))
choice_of_reach postings p (link ∷ links) at c =
    let here = filter_from (λ u. list_any (near_from p link u) (reach postings link.to links)) (occurrences postings p) at c in
    let next = any_from (near_from p link at) (reach postings link.to links) here.1 in
    let rest = choice_of_reach postings link.to links next.0 next.1 in
    (next.0 ∷ rest.0, (here.0, next.2, rest.1))

-- a chain has a choice where its first phrase has an occurrence from which the others can be
-- reached
chain_accepted : (postings : List Posting) (p : PlainPhrase) (links : List PlainLink)
    → is_filled (reach postings p links) ≡ is_filled (choices postings p links)
chain_accepted postings p links = same_bool (is_filled (reach postings p links)) (is_filled (choices postings p links))
    (λ e.
    let at = filled_from (reach postings p links) e in
    let rest = choice_of_reach postings p links at.0 at.1 in
    filled_to (choices postings p links) (at.0 ∷ rest.0) ((chosen postings p links (at.0 ∷ rest.0)).1 rest.1))
    (λ e. let c = filled_from (choices postings p links) e in one c.0 ((chosen postings p links c.0).0 c.1))
  where
    one : (c : List Place) → IsChoice postings p links c → is_filled (reach postings p links) ≡ true
    one [] is = absurd is
    one (at ∷ rest) is = filled_to (reach postings p links) at (reach_of_choice postings p links at rest is)

-- ---- forwards

-- these are the choices whose first place is one of these
record Counted (postings : List Posting) (p : PlainPhrase) (links : List PlainLink) (starts : List Place) (cs : List (List Place)) : Type 0 where
  to : (at : Place) (rest : List Place) → Contains cs (at ∷ rest) → IsChoice postings p links (at ∷ rest) × Contains starts at
  from : (at : Place) (rest : List Place) → IsChoice postings p links (at ∷ rest) → Contains starts at → Contains cs (at ∷ rest)

counted_heads : (postings : List Posting) (p : PlainPhrase) (links : List PlainLink) (starts : List Place) (cs : List (List Place))
    → Counted postings p links starts cs
    → ((at : Place) → Contains starts at → Contains (reach postings p links) at) → Alike starts (heads cs)
counted_heads postings p links starts cs counted within = alike_by starts (heads cs)
    (λ at c. let rest = choice_of_reach postings p links at (within at c) in heads_to cs at rest.0 (counted.from at rest.0 rest.1 c))
    (λ at c. let one = heads_from cs at c in (counted.to at one.0 one.1).1)

-- the next phrase's occurrences that count
abbrev onward : List Posting → PlainPhrase → PlainLink → List PlainLink → List Place → List Place
onward postings p link links starts = filter (λ b. list_any (λ a. near_from p link a b) starts) (reach postings link.to links)

counted_to : (postings : List Posting) (p : PlainPhrase) (link : PlainLink) (links : List PlainLink) (starts : List Place) (cs : List (List Place))
    → Counted postings p (link ∷ links) starts cs
    → (at : Place) (rest : List Place) (c : List Place) → Contains cs c → drop 1 c ≡ at ∷ rest
    → IsChoice postings link.to links (at ∷ rest) × Contains (onward postings p link links starts) at
counted_to postings p link links starts cs counted at rest [] c is = cc
counted_to postings p link links starts cs counted at rest (x ∷ choice) c is =
    let here = counted.to x (at ∷ rest) (subst (λ r. Contains cs (x ∷ r)) is c) in
    let choice_is = here.0.2 in (
      choice_is,
      filter_to (λ b. list_any (λ a. near_from p link a b) starts) (reach postings link.to links) at
          (reach_of_choice postings link.to links at rest choice_is) (any_to (λ a. near_from p link a at) starts x here.1 here.0.1),
    )

counted_from : (postings : List Posting) (p : PlainPhrase) (link : PlainLink) (links : List PlainLink) (starts : List Place) (cs : List (List Place))
    → Counted postings p (link ∷ links) starts cs
    → ((at : Place) → Contains starts at → Contains (reach postings p (link ∷ links)) at)
    → (at : Place) (rest : List Place) → IsChoice postings link.to links (at ∷ rest) → Contains (onward postings p link links starts) at
    → Contains (map (drop 1) cs) (at ∷ rest)
counted_from postings p link links starts cs counted within at rest is c =
    let here = filter_from (λ b. list_any (λ a. near_from p link a b) starts) (reach postings link.to links) at c in
    let before = any_from (λ a. near_from p link a at) starts here.1 in
    let first = filter_from (λ u. list_any (near_from p link u) (reach postings link.to links)) (occurrences postings p) before.0 (within before.0 before.1) in
    map_to (drop 1) cs (before.0 ∷ at ∷ rest) (counted.from before.0 (at ∷ rest) (first.0, before.2, is) before.1)

counted_next : (postings : List Posting) (p : PlainPhrase) (link : PlainLink) (links : List PlainLink) (starts : List Place) (cs : List (List Place))
    → Counted postings p (link ∷ links) starts cs
    → ((at : Place) → Contains starts at → Contains (reach postings p (link ∷ links)) at)
    → Counted postings link.to links (onward postings p link links starts) (map (drop 1) cs)
counted_next postings p link links starts cs counted within = record {
  to = λ at rest c. let one = map_from (drop 1) cs (at ∷ rest) c in counted_to postings p link links starts cs counted at rest one.0 one.1 one.2;
  from = counted_from postings p link links starts cs counted within;
}

link_marks_are : (postings : List Posting) (p : PlainPhrase) (links : List PlainLink) (starts : List Place) (cs : List (List Place))
    → AllPairs IsBefore postings → Rising starts
    → ((at : Place) → Contains starts at → Contains (reach postings p links) at) → Counted postings p links starts cs
    → link_marks (length p.terms) starts links (map (listed_places postings) (link_terms links))
    (drop 1 (linked p links (map (listed_places postings) (p.terms ++ link_terms links)))) ≡ taken_links postings (map (drop 1) cs) links
link_marks_are postings p [] starts cs ordered rising within counted = refl
link_marks_are postings p (link ∷ links) starts cs ordered rising within counted =
    let L = listed_places postings in
    let more = link_terms links in
    let k = length p.terms in
    let n = length link.to.terms in
    let next = onward postings p link links starts in
    let goes_on = λ (b : Place). list_any (λ a. near_from p link a b) starts in
    let next_rising = rising_filter goes_on (reach postings link.to links) (reach_rising postings link.to links ordered) in
    let next_takes = all_filter (Takes postings 0 link.to.terms) goes_on (reach postings link.to links) (reach_takes postings link.to links) in
    let next_within = λ (b : Place) (c : Contains next b). (filter_from goes_on (reach postings link.to links) b c).0 in
    let next_counted = counted_next postings p link links starts cs counted within in
    let is_next : near_those link.most k starts n (head_of (linked link.to links (map L (link.to.terms ++ more)))) ≡ next =
    ap (near_those link.most k starts n) (linked_are postings link.to links ordered)
    ∙ near_is link.most k starts n (reach postings link.to links) rising (reach_rising postings link.to links ordered) in
    simp (
      back_part L p.terms (link.to.terms ++ more),
      is_next,
      front_part L link.to.terms more,
      back_part L link.to.terms more,
      marks_are postings 0 link.to.terms next (heads (map (drop 1) cs)) ordered next_rising next_takes
          (counted_heads postings link.to links next (map (drop 1) cs) next_counted next_within),
      link_marks_are postings link.to links next (map (drop 1) cs) ordered next_rising next_within next_counted,
    )

all_counted : (postings : List Posting) (p : PlainPhrase) (links : List PlainLink)
    → Counted postings p links (reach postings p links) (choices postings p links)
all_counted postings p links = record {
  to = λ at rest c. let is = (chosen postings p links (at ∷ rest)).0 c in (is, reach_of_choice postings p links at rest is);
  from = λ at rest is c. (chosen postings p links (at ∷ rest)).1 is;
}

pub chain_accepts : (postings : List Posting) (p : PlainPhrase) (links : List PlainLink) → AllPairs IsBefore postings
    → is_filled (head_of (linked p links (map (listed_places postings) (p.terms ++ link_terms links)))) ≡ is_filled (choices postings p links)
chain_accepts postings p links ordered = ap (λ (s : List Place). is_filled s) (linked_are postings p links ordered) ∙ chain_accepted postings p links

-- the marks of a chain are the places that its terms take in the choices
pub chain_marks_are : (postings : List Posting) (p : PlainPhrase) (links : List PlainLink) → AllPairs IsBefore postings
    → marks_of (chain p links) (map (listed_places postings) (p.terms ++ link_terms links))
    ≡ taken_in postings 0 p.terms (heads (choices postings p links)) ++ taken_links postings (map (drop 1) (choices postings p links)) links
chain_marks_are postings p links ordered =
    let L = listed_places postings in
    let more = link_terms links in
    let lists = map L (p.terms ++ more) in
    let n = length p.terms in
    let starts = reach postings p links in
    let cs = choices postings p links in
    let within = λ (at : Place) (c : Contains starts at). c in
    let rising = reach_rising postings p links ordered in
    simp (
      linked_are postings p links ordered,
      front_part L p.terms more,
      back_part L p.terms more,
      marks_are postings 0 p.terms starts (heads cs) ordered rising (reach_takes postings p links)
          (counted_heads postings p links starts cs (all_counted postings p links) within),
      link_marks_are postings p links starts cs ordered rising within (all_counted postings p links),
    )

-- ---- what a query accepts, and the places that its terms take

abbrev lists_for : List Posting → Tree → List (List Place)
lists_for postings tree = map (listed_places postings) (terms_in tree)

pub accepted_is : (postings : List Posting) (tree : Tree) → AllPairs IsBefore postings → is_accepted tree (lists_for postings tree) ≡ accepts postings tree
accepted_is postings (phrase p) ordered = ap (λ (s : List Place). is_filled s) (starts_are postings p.filter p.terms ordered)
accepted_is postings (chain p links) ordered = chain_accepts postings p links ordered
accepted_is postings (both p q) ordered = grind (arith, nat_tests, accepted_is postings p ordered, accepted_is postings q ordered, front_part, back_part)
accepted_is postings (either p q) ordered = grind (arith, nat_tests, accepted_is postings p ordered, accepted_is postings q ordered, front_part, back_part)
accepted_is postings (without p q) ordered = grind (arith, nat_tests, accepted_is postings p ordered, accepted_is postings q ordered, front_part, back_part)

phrase_marks : (postings : List Posting) (p : PlainPhrase) → AllPairs IsBefore postings
    → marks_from 0 (map (listed_places postings) p.terms) (starts_of p (map (listed_places postings) p.terms))
    ≡ taken_in postings 0 p.terms (occurrences postings p)
phrase_marks postings p ordered =
    rw (starts_are postings p.filter p.terms ordered)
    (marks_are postings 0 p.terms (occurrences postings p) (occurrences postings p) ordered (occurrences_rising postings p ordered)
    (occurrences_take postings p (places_of postings)) (λ t. refl))

two_marks : (postings : List Posting) (p q : Tree) → marks_of p (lists_for postings p) ≡ taken postings p → marks_of q (lists_for postings q) ≡ taken postings q
    → marks_of p (take (length (terms_in p)) (map (listed_places postings) (terms_in p ++ terms_in q))) ++ marks_of q
    (drop (length (terms_in p)) (map (listed_places postings) (terms_in p ++ terms_in q))) ≡ taken postings p ++ taken postings q
two_marks postings p q left right = grind (arith, nat_tests, front_part, back_part)

pub marked_is : (postings : List Posting) (tree : Tree) → AllPairs IsBefore postings → marks_of tree (lists_for postings tree) ≡ taken postings tree
marked_is postings (phrase p) ordered = phrase_marks postings p ordered
marked_is postings (chain p links) ordered = chain_marks_are postings p links ordered
marked_is postings (both p q) ordered = two_marks postings p q (marked_is postings p ordered) (marked_is postings q ordered)
marked_is postings (either p q) ordered = two_marks postings p q (marked_is postings p ordered) (marked_is postings q ordered)
marked_is postings (without p q) ordered = ap (marks_of p) (front_part (listed_places postings) (terms_in p) (terms_in q)) ∙ marked_is postings p ordered
