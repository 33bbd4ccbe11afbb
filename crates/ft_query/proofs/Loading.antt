-- The terms of a query, and the cursors of their lists.
use Rattle.std.proofs.Common.{◌≡◌, ◌++◌, ◌∷◌, [], ◌<◌, ◌+◌, ℕ, zero, suc, List, map, take, length, ap, ap₂, sym, ◌∙◌, append_assoc, arith, slice_index_or, Bor, length-append, take_all, rules}
use Rattle.std.proofs.lemmas.Simd.{map-map}
use Rattle.ft_query.proofs.Common.{map-append, map_more, sum_by-append, QueryTerm, Cursor, Joint, Document, place_count, PlainTerm, Tree, plain_term, tree_of, terms_in, whole, lists_kept, places_left, listed_for, plain_terms, AreCursorsOf, nat_tests}
use Rattle.ft_query.proofs.Spines.{joined_terms, whole_last}

-- A part of the query with its joints is the query, and its terms are added.
pub record AddsFront (query : Tree) (joints : List Joint) (old new : List PlainTerm) : Type 0 where
  pub part : Tree
  pub all : whole joints part ≡ query
  pub added : new ≡ old ++ terms_in part

-- those of a right side more
pub front_on : {query : Tree} {js ks : List Joint} {a b c : List PlainTerm} (j : Joint) → ks ≡ js ++ j ∷ [] → AddsFront query ks a b
    → c ≡ b ++ terms_in (tree_of j.right.now) → AddsFront query js a c
front_on {query} {js} {ks} {a} {b} {c} j is at more =
    search (rules, whole_last js j at.part, append_assoc a (terms_in at.part) (terms_in (tree_of j.right.now)), joined_terms at.part j.by (tree_of j.right.now))

-- what stands at one place of two lists with the same images
pub same_at : {A B X : Type 0} (f : A → X) (g : B → X) (xs : List A) (ys : List B) (i : ℕ) (d : A) (e : B) → map f xs ≡ map g (take (length xs) ys)
    → i < length xs → f (slice_index_or xs i d) ≡ g (slice_index_or ys i e)
same_at f g [] ys i d e same within = absurd (omega arith)
same_at f g (x ∷ xs) [] i d e same within = let n = ap length same in absurd (omega arith)
same_at {A} {B} {X} f g (x ∷ xs) (y ∷ ys) zero d e same within = cc same
same_at {A} {B} {X} f g (x ∷ xs) (y ∷ ys) (suc i) d e same within = grind (arith, same_at f g xs ys i d e (cc same) (omega arith))

-- the cursor of the next term
pub cursors_on : (documents : List Document) (terms : List (Bor QueryTerm)) (cursors : List Cursor) (i : ℕ) (c : Cursor) (d : Bor QueryTerm)
    → AreCursorsOf documents terms cursors → length cursors ≡ i → i < length terms
    → lists_kept c ≡ listed_for documents (plain_term (slice_index_or terms i d).now) → AreCursorsOf documents terms (cursors ++ c ∷ [])
cursors_on documents terms cursors i c d at many within one =
    let list : Bor QueryTerm → _ = λ t. listed_for documents (plain_term t.now) in
    map-append lists_kept cursors (c ∷ [])
    ∙ ap₂ (λ ls l. ls ++ l ∷ []) (at ∙ ap (λ n. map list (take n terms)) many) one
    ∙ sym (map_more list terms i d within)
    ∙ ap (λ n. map list (take n terms)) (sym (length-append cursors (c ∷ []) ∙ ap (λ n. n + 1) many))

pub places_on : (cursors : List Cursor) (c : Cursor) → places_left (cursors ++ c ∷ []) ≡ places_left cursors + place_count (lists_kept c)
places_on cursors c = omega (arith, sum_by-append (λ (u : Cursor). place_count (lists_kept u)) cursors (c ∷ []))

-- those of all terms
pub cursors_all : (documents : List Document) (terms : List (Bor QueryTerm)) (cursors : List Cursor) → AreCursorsOf documents terms cursors
    → length terms ≡ length cursors → map lists_kept cursors ≡ map (listed_for documents) (plain_terms terms)
cursors_all documents terms cursors at many = grind (arith, nat_tests, take_all, map-map)
