-- The documents of texts are in order, and none of those left out is accepted.
use Rattle.std.proofs.Common.{◌≡◌, ℕ, ◌&&◌, ◌||◌, true, false, not, List, [], ◌∷◌, map, refl, ap, ◌∙◌, arith, ℤ, ◌<ℤ◌, ◌≢◌, AllPairs, filter}
use Rattle.ft_match.proofs.Common.{AllByRecursion, All-map, All-weaker, All-filter, All-from_recursion, filter_passes, AllPairs-cons, AllPairs-filter, PlainToken, tokens_of, Tree, phrase, chain, both, either, without, Posting, Document, AreDocuments, IsBefore, is_filled, postings_of, documents_of, accepts}
use Rattle.ft_match.proofs.TokenOnce.{pairs_head, pairs_tail}
use Rattle.ft_match.proofs.Bridge.{postings_rise}

pairs_map : {X Y : Type 0} (R : Y → Y → Type 0) (f : X → Y) (xs : List X) → AllPairs (λ a b. R (f a) (f b)) xs → AllPairs R (map f xs)
pairs_map R f [] pairs = λ i j d before inside. absurd (omega arith)
pairs_map R f (x ∷ xs) pairs =
    AllPairs-cons R (f x) (map f xs) (All-map (R (f x)) f xs (pairs_head (λ a b. R (f a) (f b)) x xs pairs))
    (pairs_map R f xs (pairs_tail (λ a b. R (f a) (f b)) x xs pairs))

abbrev row_document : ℤ × List (List PlainToken) → Document
row_document row = record { docid = row.0; postings = postings_of row.1 }

abbrev tokens_row : ℤ × List (List ℕ) → ℤ × List (List PlainToken)
tokens_row row = (row.0, map tokens_of row.1)

all_ordered : (rows : List (ℤ × List (List ℕ))) → AllByRecursion (λ d. AllPairs IsBefore d.postings) (map row_document (map tokens_row rows))
all_ordered [] = tt
all_ordered (row ∷ rows) = (postings_rise row.1, all_ordered rows)

filled : (ps : List Posting) → is_filled ps ≡ true → ps ≢ []
filled ps some none = let empty : is_filled ps ≡ false = ap is_filled none in cc

pub documents_are : (rows : List (ℤ × List (List ℕ))) → AllPairs (λ a b. a.0 <ℤ b.0) rows
    → AreDocuments (documents_of (map (λ row. (row.0, map tokens_of row.1)) rows))
documents_are rows rising =
    let all = map row_document (map tokens_row rows) in
    let kept = λ (d : Document). is_filled d.postings in
    record {
      rising =
          AllPairs-filter (λ a b. a.docid <ℤ b.docid) kept all
          (pairs_map (λ a b. a.docid <ℤ b.docid) row_document (map tokens_row rows) (pairs_map (λ a b. a.0 <ℤ b.0) tokens_row rows rising));
      filled = All-weaker (λ d. kept d ≡ true) (λ d. d.postings ≢ []) (λ d some. filled d.postings some) (filter kept all) (filter_passes kept all);
      ordered = All-filter kept (λ d. AllPairs IsBefore d.postings) all (All-from_recursion (λ d. AllPairs IsBefore d.postings) all (all_ordered rows));
    }

pub accepts_nothing : (tree : Tree) → accepts [] tree ≡ false
accepts_nothing (phrase p) = refl
accepts_nothing (chain p []) = refl
accepts_nothing (chain p (link ∷ links)) = refl
accepts_nothing (both p q) = ap (λ b. b && accepts [] q) (accepts_nothing p)
accepts_nothing (either p q) = ap (λ b. b || accepts [] q) (accepts_nothing p) ∙ accepts_nothing q
accepts_nothing (without p q) = ap (λ b. b && not (accepts [] q)) (accepts_nothing p)
