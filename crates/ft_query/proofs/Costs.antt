-- The steps for one document are few for each place of its lists and each term of the query.
use Rattle.std.proofs.Common.{◌≡◌, ℕ, ◌+◌, ◌*◌, ◌≤◌, Bool, true, false, cond, List, [], ◌∷◌, ◌++◌, length, take, drop, zero, suc, refl, sym, ap, ◌∙◌, arith, max, ℤ, filter, flat_map, sum_by, Option, mul-le-mul_left, length-append, length-take-le, length-drop, take_all, rules}
use Rattle.ft_query.proofs.Common.{length-map, sum_by-cons, Place, Cursor, Steps, TakesAtMost, LentPlaces, own_lists, PlainTerm, PlainPhrase, PlainLink, Tree, phrase, chain, both, either, without, terms_in, width, lists_left, places_at, among, may_begin, followed, starts_from, starts_of, near_those, head_of, linked, total, linked_cost, link_cost, visit_cost, plain_lists, places_in, nat_tests, common_steps}
use Rattle.ft_query.proofs.Passes.{among_short, followed_few, near_short, filter_short}

total_split : (n : ℕ) (ls : List (List Place)) → total (take n ls) + total (drop n ls) ≡ total ls
total_split zero ls = omega arith
total_split (suc n) [] = refl
total_split (suc n) (l ∷ ls) = omega (arith, total_split n ls)

-- ---- phrases

one_le : (first : Bool) (i : ℕ) (starts list : List Place) → length (cond first [] (among i 0 starts list)) ≤ length starts
one_le true i starts list = omega arith
one_le false i starts list = among_short i 0 starts list

followed_le : (i : ℕ) (ts : List PlainTerm) (ls : List (List Place)) (starts : List Place) → length (followed i ts ls starts) ≤ length starts
followed_le i [] ls starts = omega arith
followed_le i (t ∷ ts) [] starts = omega arith
followed_le i (t ∷ ts) (l ∷ ls) starts = grind (arith, nat_tests, followed_le (i + 1) ts ls (cond t.first [] (among i 0 starts l)), one_le t.first i starts l)

followed_times : (i : ℕ) (ts : List PlainTerm) (ls : List (List Place)) (starts : List Place) → length ts ≡ length ls
    → length ts * length (followed i ts ls starts) ≤ total ls
followed_times i [] ls starts same = omega arith
followed_times i (t ∷ ts) [] starts same = absurd (omega arith)
followed_times i (t ∷ ts) (l ∷ ls) starts same =
    grind (arith, nat_tests, followed_times (i + 1) ts ls (cond t.first [] (among i 0 starts l)) (omega arith), followed_le, followed_few)

from_le : (only : Option ℕ) (ts : List PlainTerm) (ls : List (List Place)) → length (starts_from only ts ls) ≤ total ls
from_le only [] ls = omega arith
from_le only (t ∷ ts) [] = omega arith
from_le only (t ∷ ts) (l ∷ ls) = grind (arith, nat_tests, followed_le 1 ts ls (filter (may_begin only t.first) l), filter_short (may_begin only t.first) l)

from_times : (only : Option ℕ) (ts : List PlainTerm) (ls : List (List Place)) → length ts ≡ length ls → length ts * length (starts_from only ts ls) ≤ total ls
from_times only [] ls same = omega arith
from_times only (t ∷ ts) [] same = omega arith
from_times only (t ∷ ts) (l ∷ ls) same =
    let one = filter_short (may_begin only t.first) l in
    omega (arith, followed_le 1 ts ls (filter (may_begin only t.first) l), followed_times 1 ts ls (filter (may_begin only t.first) l) (omega arith), one)

-- ---- chains

abbrev link_terms : List PlainLink → List PlainTerm
link_terms links = flat_map (λ link. link.to.terms) links

linked_le : (p : PlainPhrase) (links : List PlainLink) (ls : List (List Place)) → length ls ≡ length (p.terms ++ link_terms links)
    → length (head_of (linked p links ls)) ≤ total (take (length p.terms) ls)
linked_le p [] ls same = grind (arith, nat_tests, length-append, take_all, from_le)
linked_le p (link ∷ links) ls same = grind (arith, nat_tests, near_short, from_le)

linked_times : (p : PlainPhrase) (links : List PlainLink) (ls : List (List Place)) → length ls ≡ length (p.terms ++ link_terms links)
    → length p.terms * length (head_of (linked p links ls)) ≤ total (take (length p.terms) ls)
linked_times p [] ls same = search (rules, take_all, from_times)
linked_times p (link ∷ links) ls same =
    let n = length p.terms in
    let front = length-take-le n ls (omega (arith, length-append p.terms (link_terms (link ∷ links)), same)) in
    let more = mul-le-mul_left n (near_short link.most (length link.to.terms) (head_of (linked link.to links (drop n ls))) n (starts_of p (take n ls))) in
    omega (arith, more, from_times p.filter p.terms (take n ls) (sym front))

linked_bound : (p : PlainPhrase) (links : List PlainLink) (ls : List (List Place))
    → linked_cost p links ls + length (head_of (linked p links ls)) ≤ 6 * total ls
linked_bound p [] ls = omega (arith, from_le p.filter p.terms ls)
linked_bound p (link ∷ links) ls = grind (arith, nat_tests, linked_bound link.to links (drop (length p.terms) ls), total_split, from_le, near_short)

links_bound : (p : PlainPhrase) (links : List PlainLink) (ls : List (List Place)) (starts : List Place) → length ls ≡ length (p.terms ++ link_terms links)
    → link_cost (length p.terms) starts links (drop (length p.terms) ls) (drop 1 (linked p links ls)) ≤ length starts + 6 * total (drop (length p.terms) ls)
links_bound p [] ls starts same = omega arith
links_bound p (link ∷ links) ls starts same =
    let behind = drop (length p.terms) ls in
    let n = length link.to.terms in
    let all = linked link.to links behind in
    let left = length-drop (length p.terms) ls in
    let many : length behind ≡ length (link.to.terms ++ link_terms links) = omega (arith, length-append p.terms (link_terms (link ∷ links)), left, same) in
    let parts = total_split n behind in
    let short = near_short link.most (length p.terms) starts n (head_of all) in
    let few = linked_le link.to links behind many in
    let times = linked_times link.to links behind many in
    let more = mul-le-mul_left n short in
    omega (arith, links_bound link.to links behind (near_those link.most (length p.terms) starts n (head_of all)) many, parts, short, few, times, more)

-- ---- queries

some_width : (p : PlainPhrase) → 1 ≤ max 1 (length p.terms)
some_width p = omega arith

links_few : (links : List PlainLink) → length links ≤ sum_by (λ link. max 1 (length link.to.terms)) links
links_few [] = omega arith
links_few (link ∷ links) = grind (arith, common_steps, links_few links, sum_by-cons)

chain_bound : (p : PlainPhrase) (links : List PlainLink) (ls : List (List Place)) → length ls ≡ length (p.terms ++ link_terms links)
    → visit_cost (chain p links) ls ≤ 1 + length links + 12 * total ls
chain_bound p links ls same =
    let rest = links_bound p links ls (head_of (linked p links ls)) same in
    omega (arith, linked_bound p links ls, total_split (length p.terms) ls, linked_le p links ls same, linked_times p links ls same, rest)

two_bound : (p q : Tree) (ls : List (List Place)) → length ls ≡ length (terms_in p ++ terms_in q)
    → ((l : List (List Place)) → length l ≡ length (terms_in p) → visit_cost p l + 1 ≤ 12 * total l + 2 * width p)
    → ((l : List (List Place)) → length l ≡ length (terms_in q) → visit_cost q l + 1 ≤ 12 * total l + 2 * width q)
    → 1 + (visit_cost p (take (length (terms_in p)) ls) + visit_cost q (drop (length (terms_in p)) ls)) + 1 ≤ 12 * total ls + 2 * (width p + width q)
two_bound p q ls same left right =
    let n = length (terms_in p) in
    let sum = length-append (terms_in p) (terms_in q) in
    let parts = total_split n ls in
    omega (arith, left (take n ls) (length-take-le n ls (omega (arith, sum, same))), right (drop n ls) (omega (arith, sum, length-drop n ls, same)), parts)

visit_bound : (tree : Tree) (ls : List (List Place)) → length ls ≡ length (terms_in tree) → visit_cost tree ls + 1 ≤ 12 * total ls + 2 * width tree
visit_bound (phrase p) ls same = grind (arith, nat_tests, from_times p.filter p.terms ls (sym same), ap, some_width p)
visit_bound (chain p links) ls same = grind (arith, nat_tests, chain_bound p links ls same, some_width p, links_few links)
visit_bound (both p q) ls same = two_bound p q ls same (visit_bound p) (visit_bound q)
visit_bound (either p q) ls same = two_bound p q ls same (visit_bound p) (visit_bound q)
visit_bound (without p q) ls same = two_bound p q ls same (visit_bound p) (visit_bound q)

links_width : (links : List PlainLink) → length (link_terms links) ≤ sum_by (λ link. max 1 (length link.to.terms)) links
links_width [] = omega arith
links_width (link ∷ links) = grind (arith, common_steps, links_width links, length-append link.to.terms (link_terms links), sum_by-cons)

pub terms_width : (tree : Tree) → length (terms_in tree) ≤ width tree
terms_width (phrase p) = omega arith
terms_width (chain p links) = omega (arith, length-append p.terms (link_terms links), links_width links)
terms_width (both p q) = grind (arith, nat_tests, length-append (terms_in p) (terms_in q), terms_width p, terms_width q)
terms_width (either p q) = grind (arith, nat_tests, length-append (terms_in p) (terms_in q), terms_width p, terms_width q)
terms_width (without p q) = grind (arith, nat_tests, length-append (terms_in p) (terms_in q), terms_width p, terms_width q)

total_is : (docid : ℤ) (cursors : List Cursor) → total (places_in docid cursors) ≡ sum_by (λ c. length (places_at docid (lists_left c))) cursors
total_is docid [] = refl
total_is docid (c ∷ cs) = grind (arith, common_steps, total_is docid cs, sum_by-cons)

-- what a document costs, with one step for each of its lists
pub document_bound : (tree : Tree) (docid : ℤ) (cursors : List Cursor) (lists : List (List Place)) → length cursors ≡ length (terms_in tree)
    → lists ≡ places_in docid cursors
    → length cursors + visit_cost tree lists ≤ 12 * sum_by (λ c. length (places_at docid (lists_left c))) cursors + 3 * width tree
document_bound tree docid cursors lists same is =
    let many : length lists ≡ length (terms_in tree) = ap length is ∙ length-map cursors (λ c. places_at docid (lists_left c)) ∙ same in
    omega (arith, visit_bound tree lists many, ap total is ∙ total_is docid cursors, terms_width tree, same)

-- where the lists are just those of the query's terms, they are all its own
pub own_are : (tree : Tree) (docid : ℤ) (cursors : List Cursor) (lists : List LentPlaces) → length cursors ≡ length (terms_in tree)
    → plain_lists lists ≡ places_in docid cursors → plain_lists (own_lists tree lists) ≡ places_in docid cursors
own_are tree docid cursors lists same is = grind (arith, nat_tests, length-map, take_all)

-- what the evaluation of a document takes, after the looks for its lists
pub document_takes : (tree : Tree) (docid : ℤ) (cursors : List Cursor) (lists : List LentPlaces) {begun mid new : Steps}
    → length cursors ≡ length (terms_in tree) → plain_lists lists ≡ places_in docid cursors
    → begun.taken ≤ mid.taken → mid.taken ≤ begun.taken + length cursors
    → TakesAtMost (visit_cost tree (plain_lists (own_lists tree lists))) mid new
    → TakesAtMost (12 * sum_by (λ c. length (places_at docid (lists_left c))) cursors + 3 * width tree) begun new
document_takes tree docid cursors lists same is first most taken =
    let bound = document_bound tree docid cursors (plain_lists (own_lists tree lists)) same (own_are tree docid cursors lists same is) in
    record { at_least = omega (arith, first, taken.at_least); at_most = omega (arith, bound, most, taken.at_most) }
