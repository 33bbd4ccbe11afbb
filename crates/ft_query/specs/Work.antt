-- Meaning. How much a query asks of the lists, and how many steps a walk may take (own choices).
use Rattle.std.specs.Prelude.{ℕ, ◌+◌, max, List, ◌++◌, length, map, sum_by, count_by, flat_map}
use Rattle.std.specs.List.{list_any}
use Rattle.ft_match.specs.Documents.{Document, PlaceList, lists_with, place_count}
use Rattle.ft_match.specs.Trees.{PlainTerm, Tree, phrase, chain, both, either, without}
use Rattle.ft_match.specs.Occurs.{is_listed}

-- all terms of the query in the text's order, those right of a NOT too
abbrev pub terms_in : Tree → List PlainTerm
terms_in (phrase p) = p.terms
terms_in (chain p links) = p.terms ++ flat_map (λ link. link.to.terms) links
terms_in (both p q) = terms_in p ++ terms_in q
terms_in (either p q) = terms_in p ++ terms_in q
terms_in (without p q) = terms_in p ++ terms_in q

-- how many there are, where a phrase without terms counts as one
abbrev pub width : Tree → ℕ
width (phrase p) = max 1 (length p.terms)
width (chain p links) = max 1 (length p.terms) + sum_by (λ link. max 1 (length link.to.terms)) links
width (both p q) = width p + width q
width (either p q) = width p + width q
width (without p q) = width p + width q

-- how many nodes a query has: each phrase, also of a chain, and each AND, OR and NOT
abbrev pub node_count : Tree → ℕ
node_count (phrase p) = 1
node_count (chain p links) = 1 + length links
node_count (both p q) = 1 + (node_count p + node_count q)
node_count (either p q) = 1 + (node_count p + node_count q)
node_count (without p q) = 1 + (node_count p + node_count q)

-- For each term its list: of the term itself, or of all that begins so where it is a prefix term. A first term's list is that of the term
-- in every position.
abbrev pub lists_of : Tree → List Document → List (List PlaceList)
lists_of tree documents = map (λ t. lists_with (is_listed t) documents) (terms_in tree)

-- the postings in the lists of the terms, counted for each term
abbrev pub entry_count : Tree → List Document → ℕ
entry_count tree documents = sum_by place_count (lists_of tree documents)

-- the documents that have such a posting
abbrev pub candidate_count : Tree → List Document → ℕ
candidate_count tree documents = count_by (λ d. list_any (λ t. list_any (λ p. is_listed t p.term) d.postings) (terms_in tree)) documents
