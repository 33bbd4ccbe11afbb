-- How many places the passes keep.
use Rattle.std.proofs.Common.{◌≡◌, ℕ, ◌+◌, ◌<◌, List, [], ◌∷◌, ◌++◌, length, map, take, drop, get_or, ap, sym, ◌∙◌, arith, flat_map, append_assoc, length-append, length-drop, length-take-le, ◌*◌, ◌≤◌, Bool, true, false, cond, reverse, suc, add-zero, refl, filter, None, Ordering, Less, Equal, Greater, rules}
use Rattle.ft_query.proofs.Common.{length-map, drop_more, LentPlaces, Place, Offset, Link, PlainPhrase, PlainLink, chain, plain_link, plain_term, terms_in, marks_from, head_of, linked, link_marks, near_those, marks_of, numbered_offsets, plain_lists, match_ordering, map-append, take-map, drop-map, Chain, chain_tree, AreLinked, last_phrase, reverse-append, reverse-reverse, QueryTerm, Phrase, plain_phrase, place_order, seek, among, skip_behind, begin_near, may_begin, followed, plain_starts, total, linked_cost, link_cost, visit_cost, Occurrences, nat_tests, common_steps}

-- what is left of a list, with the one that was found
abbrev left_over : Bool × List Place → ℕ
left_over r = length r.1 + cond r.0 1 0

seek_one : (o : Ordering) (y : Place) (ys : List Place) (more : Bool × List Place) → left_over more ≤ length ys
    → left_over (match_ordering o more (true, ys) (false, y ∷ ys)) ≤ length (y ∷ ys)
seek_one Less y ys more h = omega arith
seek_one Equal y ys more h = omega arith
seek_one Greater y ys more h = omega arith

seek_short : (i : ℕ) (x : Place) (j : ℕ) (ys : List Place) → left_over (seek i x j ys) ≤ length ys
seek_short i x j [] = omega arith
seek_short i x j (y ∷ ys) = seek_one (place_order j y i x) y ys (seek i x j ys) (seek_short i x j ys)

among_one : (b : Bool) (x : Place) (kept : List Place) → length (cond b (x ∷ kept) kept) ≡ length kept + cond b 1 0
among_one true x kept = omega arith
among_one false x kept = omega arith

-- one more or none
kept_le : (b : Bool) (x : Place) (kept : List Place) (n : ℕ) → length kept ≤ n → length (cond b (x ∷ kept) kept) ≤ suc n
kept_le true x kept n h = omega arith
kept_le false x kept n h = omega arith

pub among_short : (i j : ℕ) (xs ys : List Place) → length (among i j xs ys) ≤ length xs
among_short i j [] ys = omega arith
among_short i j (x ∷ xs) ys =
    grind (arith, nat_tests, kept_le (seek i x j ys).0 x (among i j xs (seek i x j ys).1) (length xs) (among_short i j xs (seek i x j ys).1))

among_few : (i j : ℕ) (xs ys : List Place) → length (among i j xs ys) ≤ length ys
among_few i j [] ys = omega arith
among_few i j (x ∷ xs) ys = grind (arith, nat_tests, among_few i j xs (seek i x j ys).1, seek_short, among_one)

pub near_short : (most k : ℕ) (near : List Place) (m : ℕ) (bs : List Place) → length (near_those most k near m bs) ≤ length bs
near_short most k near m [] = omega arith
near_short most k near m (b ∷ bs) =
    let left = skip_behind most k near b in
    kept_le (begin_near most k left m b) b (near_those most k left m bs) (length bs) (near_short most k left m bs)

pub filter_short : (p : Place → Bool) (xs : List Place) → length (filter p xs) ≤ length xs
filter_short p [] = omega arith
filter_short p (x ∷ xs) = kept_le (p x) x (filter p xs) (length xs) (filter_short p xs)

-- without a filter a phrase whose first term may stand anywhere may begin at each place
pub all_may_begin : (xs : List Place) → filter (may_begin None false) xs ≡ xs
all_may_begin [] = refl
all_may_begin (x ∷ xs) = ap (λ ys. x ∷ ys) (all_may_begin xs)

-- ---- the lists of a phrase's terms, one after the other

pub total_more : (lists : List LentPlaces) (i : ℕ) (l : LentPlaces) → i < length lists
    → total (plain_lists (drop i lists)) ≡ length (get_or lists i l).now + total (plain_lists (drop (i + 1) lists))
total_more lists i l h = ap (λ ls. total (plain_lists ls)) (drop_more lists i l h)

-- the first term of those that are left, with its list
pub follow_more : (i : ℕ) (terms : List QueryTerm) (lists : List LentPlaces) (starts : List Place) (t : QueryTerm) (l : LentPlaces) → i < length terms
    → length lists ≡ length terms → t ≡ get_or terms i t
    → followed (i + 1) (map plain_term (drop i terms)) (plain_lists (drop i lists)) starts
    ≡ followed (i + 1 + 1) (map plain_term (drop (i + 1) terms)) (plain_lists (drop (i + 1) lists))
    (cond t.first [] (among (i + 1) 0 starts (get_or lists i l).now))
follow_more i terms lists starts t l h same is = grind (arith, nat_tests, drop_more terms i t h, drop_more lists i l (omega arith))

pub followed_few : (first : Bool) (i : ℕ) (starts list : List Place) → length (cond first [] (among i 0 starts list)) ≤ length list
followed_few true i starts list = omega arith
followed_few false i starts list = among_few i 0 starts list

-- ---- chains

-- a chain has a first phrase
linked_first : (p : PlainPhrase) (links : List PlainLink) (lists : List (List Place))
    → linked p links lists ≡ head_of (linked p links lists) ∷ drop 1 (linked p links lists)
linked_first p [] lists = refl
linked_first p (link ∷ links) lists = refl

pub linked_push : (p : PlainPhrase) (links : List PlainLink) (lists : List (List Place)) (rest : List Occurrences) (next : Occurrences)
    → next.items ≡ head_of (linked p links lists) → plain_starts rest ≡ reverse (drop 1 (linked p links lists))
    → plain_starts (rest ++ next ∷ []) ≡ reverse (linked p links lists)
linked_push p links lists rest next first later =
    grind (arith, nat_tests, map-append, linked_first p links lists, reverse-append (head_of (linked p links lists) ∷ []) (drop 1 (linked p links lists)))

-- the last phrase of a chain with one link more
pub last_push : (first : Phrase) (links : List Link) (link : Link) → last_phrase first (links ++ link ∷ []) ≡ link.to
last_push first [] link = refl
last_push first (l ∷ links) link = last_push l.to links link

pub numbered-append : (n : ℕ) (ms more : List (List Place)) → numbered_offsets n (ms ++ more) ≡ numbered_offsets n ms ++ numbered_offsets (n + length ms) more
numbered-append n [] more = ap (λ m. numbered_offsets m more) (sym (add-zero n))
numbered-append n (m ∷ ms) more = grind (arith, nat_tests, numbered-append (n + 1) ms more, append_assoc)

pub marks_length : (i : ℕ) (lists : List (List Place)) (starts : List Place) → length (marks_from i lists starts) ≡ length lists
marks_length i [] starts = refl
marks_length i (l ∷ ls) starts = ap (λ n. suc n) (marks_length (i + 1) ls starts)

-- ---- the lists of a phrase's terms, and those after them

pub lists_front : (front own : List LentPlaces) (n : ℕ) → length front ≡ n → take n (plain_lists (front ++ own)) ≡ plain_lists front
lists_front front own n same = grind (arith, common_steps, map-append)

pub lists_back : (front own : List LentPlaces) (n : ℕ) → length front ≡ n → drop n (plain_lists (front ++ own)) ≡ plain_lists own
lists_back front own n same = grind (arith, common_steps, map-append)

-- the marks of one link, and those of the links after it
pub link_marks_one : (k : ℕ) (starts : List Place) (link : Link) (links : List Link) (lists own behind : List LentPlaces) (others : Occurrences) (all : List Occurrences)
    (size : ℕ) (next : List Place)
    → size ≡ length link.to.terms.items → own ≡ take size lists → behind ≡ drop size lists → next ≡ near_those link.most k starts size others.items
    → marks_from 0 (plain_lists own) next ++ link_marks size next (map plain_link links) (plain_lists behind) (plain_starts all)
    ≡ link_marks k starts (map plain_link (link ∷ links)) (plain_lists lists) (plain_starts (others ∷ all))
link_marks_one k starts link links lists own behind others all size next is_size is_own is_behind is_next = search (rules, take-map, drop-map, length-map)

pub linked_length : (p : PlainPhrase) (links : List PlainLink) (lists : List (List Place)) → length (drop 1 (linked p links lists)) ≡ length links
linked_length p [] lists = refl
linked_length p (link ∷ links) lists = grind (arith, nat_tests, linked_length link.to links (drop (length p.terms) lists), linked_first)

starts-reverse : (all : List Occurrences) → plain_starts (reverse all) ≡ reverse (plain_starts all)
starts-reverse [] = refl
starts-reverse (x ∷ all) =
    grind (arith, nat_tests, reverse-append (x ∷ []) all, map-append, starts-reverse all, reverse-append (x.items ∷ []) (plain_starts all))

pub starts_forward : (all : List Occurrences) (lists : List (List Place)) → plain_starts all ≡ reverse lists → plain_starts (reverse all) ≡ lists
starts_forward all lists is = starts-reverse all ∙ ap reverse is ∙ reverse-reverse lists

pub starts_many : (all : List Occurrences) (lists : List (List Place)) → plain_starts all ≡ lists → length all ≡ length lists
starts_many all lists is = sym (length-map all (λ s. s.items)) ∙ ap length is

-- The lists of a chain's first phrase and of the others, and the occurrences of each phrase.
pub record Parted (near : Chain) (lists own behind : List LentPlaces) (starts : List Place) (all : List Occurrences) : Type 0 where
  pub own_is : own ≡ take (length near.first.terms.items) lists
  pub behind_is : behind ≡ drop (length near.first.terms.items) lists
  pub starts_are : starts ≡ head_of (linked (plain_phrase near.first) (map plain_link near.links.items) (plain_lists lists))
  pub all_are : plain_starts all ≡ drop 1 (linked (plain_phrase near.first) (map plain_link near.links.items) (plain_lists lists))

pub parted : (near : Chain) (lists : List LentPlaces) {own behind : List LentPlaces} (starts : Occurrences) (rest all : List Occurrences) (size : ℕ)
    → size ≡ length near.first.terms.items → own ≡ take size lists → behind ≡ drop size lists → all ≡ reverse rest
    → AreLinked starts rest (linked (plain_phrase near.first) (map plain_link near.links.items) (plain_lists lists))
    → Parted near lists own behind starts.items all
parted near lists starts rest all size is own behind same are = record {
  own_is = own ∙ ap (λ n. take n lists) is;
  behind_is = behind ∙ ap (λ n. drop n lists) is;
  starts_are = are.first;
  all_are = ap plain_starts same ∙ starts_forward rest _ are.rest;
}

-- the marks of a chain's first phrase, and those of its links
pub chain_marks : {near : Chain} {lists own behind : List LentPlaces} {starts : List Place} {all : List Occurrences} → Parted near lists own behind starts all
    → marks_from 0 (plain_lists own) starts
    ++ link_marks (length near.first.terms.items) starts (map plain_link near.links.items) (plain_lists behind) (plain_starts all)
    ≡ marks_of (chain_tree near) (plain_lists lists)
chain_marks p = simp (p.own_is, p.behind_is, p.starts_are, p.all_are, take-map, drop-map, length-map)

-- the steps for a chain: back to its first phrase, for that one's marks, and for those of its links
pub chain_cost : {near : Chain} {lists own behind : List LentPlaces} {starts : List Place} {all : List Occurrences} → Parted near lists own behind starts all
    → 1 + length (map plain_link near.links.items)
    + (linked_cost (plain_phrase near.first) (map plain_link near.links.items) (plain_lists lists) + total (plain_lists own)
    + length near.first.terms.items * length starts
    + link_cost (length near.first.terms.items) starts (map plain_link near.links.items) (plain_lists behind) (plain_starts all))
    ≡ visit_cost (chain_tree near) (plain_lists lists)
chain_cost p = simp (p.own_is, p.behind_is, p.starts_are, p.all_are, take-map, drop-map, length-map)

-- ---- how many marks a query has, and their offsets one after the other

link_marks_length : (k : ℕ) (starts : List Place) (links : List PlainLink) (lists : List (List Place)) (all : List (List Place))
    → length lists ≡ length (flat_map (λ link. link.to.terms) links) → length (link_marks k starts links lists all) ≡ length lists
link_marks_length k starts [] lists all same = sym same
link_marks_length k starts (link ∷ links) lists all same =
    let n = length link.to.terms in
    let next = near_those link.most k starts n (head_of all) in
    let sum = length-append link.to.terms (flat_map (λ l. l.to.terms) links) in
    let back = length-drop n lists in
    let rest = link_marks_length n next links (drop n lists) (drop 1 all) (omega (arith, sum, back, same)) in
    let front = marks_length 0 (take n lists) next in
    let short = length-take-le n lists (omega (arith, sum, same)) in
    length-append (marks_from 0 (take n lists) next) (link_marks n next links (drop n lists) (drop 1 all)) ∙ omega (arith, sum, back, rest, front, short, same)

-- each term of a chain has marks
chain_marks_length : (p : PlainPhrase) (links : List PlainLink) (lists : List (List Place)) → length lists ≡ length (terms_in (chain p links))
    → length (marks_of (chain p links) lists) ≡ length lists
chain_marks_length p links lists same =
    let n = length p.terms in
    let all = linked p links lists in
    let sum = length-append p.terms (flat_map (λ l. l.to.terms) links) in
    let back = length-drop n lists in
    let front = marks_length 0 (take n lists) (head_of all) in
    let short = length-take-le n lists (omega (arith, sum, same)) in
    length-append (marks_from 0 (take n lists) (head_of all)) (link_marks n (head_of all) links (drop n lists) (drop 1 all))
    ∙ omega (arith, sum, back, link_marks_length n (head_of all) links (drop n lists) (drop 1 all) (omega (arith, sum, back, same)), front, short, same)

-- what a query's left side adds before its right one
pub numbered_more : (old : List Offset) (n : ℕ) (ms more : List (List Place))
    → old ++ numbered_offsets n ms ++ numbered_offsets (n + length ms) more ≡ old ++ numbered_offsets n (ms ++ more)
numbered_more old n ms more = append_assoc old (numbered_offsets n ms) (numbered_offsets (n + length ms) more) ∙ sym (ap (λ os. old ++ os) (numbered-append n ms more))

pub phrase_marks_count : (lists : List LentPlaces) (starts : List Place) → length (marks_from 0 (plain_lists lists) starts) ≡ length lists
phrase_marks_count lists starts = marks_length 0 (plain_lists lists) starts ∙ length-map lists (λ l. l.now)

-- what the lists of a phrase's terms add before the terms after it
pub numbered_marks : (old : List Offset) (n : ℕ) (lists : List LentPlaces) (starts : List Place) (more : List (List Place))
    → old ++ numbered_offsets n (marks_from 0 (plain_lists lists) starts) ++ numbered_offsets (n + length lists) more
    ≡ old ++ numbered_offsets n (marks_from 0 (plain_lists lists) starts ++ more)
numbered_marks old n lists starts more = search (rules, phrase_marks_count lists starts, numbered_more old n (marks_from 0 (plain_lists lists) starts) more)

-- the terms of the first link of those that are left
pub count_more : (links : List Link) (i : ℕ) (d : Link) → i < length links
    → length (flat_map (λ l. l.to.terms) (map plain_link (drop i links)))
    ≡ length (get_or links i d).to.terms.items + length (flat_map (λ l. l.to.terms) (map plain_link (drop (i + 1) links)))
count_more links i d h = grind (arith, nat_tests, drop_more, length-append, length-map)

pub chain_marks_count : (p : PlainPhrase) (links : List PlainLink) (lists : List LentPlaces) → length lists ≡ length (terms_in (chain p links))
    → length (marks_of (chain p links) (plain_lists lists)) ≡ length lists
chain_marks_count p links lists same =
    chain_marks_length p links (plain_lists lists) (length-map lists (λ l. l.now) ∙ same) ∙ length-map lists (λ l. l.now)
