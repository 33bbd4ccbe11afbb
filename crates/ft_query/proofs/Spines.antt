-- What is joined to the first operand of a query, one joint after the other.
use Rattle.std.proofs.Common.{◌≡◌, ◌+◌, ◌≤◌, ◌<◌, List, [], ◌∷◌, ◌++◌, length, refl, sym, ap, subst, ◌∙◌, append_assoc, arith, length-append, rules}
use Rattle.ft_query.proofs.Common.{By, Joint, Tree, phrase, chain, both, either, without, tree_of, terms_in, node_count, width, joined_sides, whole, AddsSpine}
use Rattle.ft_match.specs.declared.query.By.TheVariants as by

-- the last joint is joined first
pub whole_last : (js : List Joint) (j : Joint) (p : Tree) → whole (js ++ j ∷ []) p ≡ whole js (joined_sides p j.by (tree_of j.right.now))
whole_last [] j p = refl
whole_last (i ∷ js) j p = ap (λ t. joined_sides t i.by (tree_of i.right.now)) (whole_last js j p)

pub joined_terms : (p : Tree) (b : By) (q : Tree) → terms_in (joined_sides p b q) ≡ terms_in p ++ terms_in q
joined_terms p by.And q = refl
joined_terms p by.Or q = refl
joined_terms p by.Not q = refl

pub joined_width : (p : Tree) (b : By) (q : Tree) → width (joined_sides p b q) ≡ width p + width q
joined_width p by.And q = refl
joined_width p by.Or q = refl
joined_width p by.Not q = refl

pub some_width : (t : Tree) → 1 ≤ width t
some_width (phrase p) = omega arith
some_width (chain p links) = omega arith
some_width (both p q) = omega (arith, some_width p)
some_width (either p q) = omega (arith, some_width p)
some_width (without p q) = omega (arith, some_width p)

-- a left side's joint more
pub spine_on : (old now new : List Joint) (j : Joint) (left : Tree) {query : Tree} → AddsSpine old now (joined_sides left j.by (tree_of j.right.now)) query
    → new ≡ now ++ j ∷ [] → AddsSpine old new left query
spine_on old now new j left {query} at more = search (rules, append_assoc old at.own (j ∷ []), whole_last at.own j left)

pub spine_alone : (js : List Joint) {part query : Tree} → AddsSpine [] js part query → whole js part ≡ query
spine_alone js {part} {query} at = subst (λ l. whole l part ≡ query) (sym at.added) at.all

pub some_nodes : (t : Tree) → 1 ≤ node_count t
some_nodes (phrase p) = omega arith
some_nodes _ = omega arith

pub part_terms : (js : List Joint) (p : Tree) → length (terms_in p) ≤ length (terms_in (whole js p))
part_terms [] p = omega arith
part_terms (j ∷ js) p =
    search (rules, part_terms js p, ap length (joined_terms (whole js p) j.by (tree_of j.right.now)) ∙ length-append (terms_in (whole js p)) (terms_in (tree_of j.right.now)))

part_width : (js : List Joint) (p : Tree) → width p ≤ width (whole js p)
part_width [] p = omega arith
part_width (j ∷ js) p = grind (arith, part_width js p)

-- a right side is less wide than the whole
pub right_width : (js : List Joint) (j : Joint) (p query : Tree) → whole (js ++ j ∷ []) p ≡ query → width (tree_of j.right.now) < width query
right_width js j p query all =
    omega (arith, part_width js (joined_sides p j.by (tree_of j.right.now)), ap width (sym (whole_last js j p) ∙ all), joined_width p j.by (tree_of j.right.now), some_width p)
