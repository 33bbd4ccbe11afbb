-- What considering one document does to a walk.
use Rattle.std.proofs.Common.{◌≡◌, ◌≢◌, ℕ, ◌+◌, ◌-◌, ◌*◌, ◌^◌, ◌<◌, ◌≤◌, ◌⊎◌, inl, ℤ, ◌<ℤ◌, min, Bool, true, false, cond, List, [], ◌∷◌, ◌++◌, length, map, refl, sym, ap, subst, ◌∙◌, arith, Option, Some, None, AllPairs, sum_by, if◌then◌else◌, option_map, IfSome, int_eq, mul-suc, rules}
use Rattle.std.proofs.lemmas.Simd.{map-map}
use Rattle.ft_query.proofs.Common.{recursion_from_All, All-nil, All-head, Decides-int_eq, sum_by-cons, Query, Place, Offset, Cursor, Wanted, Posting, Document, AreDocuments, IsBefore, PlaceList, place_count, Tree, tree_of, PlainHit, accepts, offsets_of, hits_of, terms_in, lists_of, node_count, width, entry_count, candidate_count, lists_left, places_at, passed, least_of, least_from, listed_for, listed_places, if_wanted, Walk, StandsBefore, steps_to_come, Went, hit_at, walk_at, Finds, Steps, more_steps, TakesSteps, TakesAtMost, nat_tests, common_steps}
use Rattle.ft_query.proofs.Spines.{some_nodes}
use Rattle.ft_query.proofs.Costs.{terms_width}
use Rattle.ft_match.proofs.{pairs_head}
use Rattle.ft_query.proofs.Nexts.{Next, Nothing, First, next_of, are_more, all_places, all_passed, all_counted}

no_documents : AreDocuments []
no_documents = record {
  rising = λ i j d before inside. absurd (omega arith);
  filled = All-nil (λ (e : Document). e.postings ≢ []);
  ordered = All-nil (λ (e : Document). AllPairs IsBefore e.postings);
}

-- where no list has a document left
pub nothing_left : (wanted : Wanted) (q : Query) (ls : List (List PlaceList)) (s t : ℕ) (documents : List Document)
    → AreDocuments documents × (ls ≡ lists_of (tree_of q) documents) → least_from None ls ≡ None → t ≡ s →
    Finds wanted (record { query = q; lists = ls; steps = s }) (record { query = q; lists = ls; steps = t }) None documents
nothing_left wanted q ls s t documents stands none same_steps = by (next_of (tree_of q) documents stands.0)
  where
    by : Next (tree_of q) documents
        → Finds wanted (record { query = q; lists = ls; steps = s }) (record { query = q; lists = ls; steps = t }) None documents
    by (First d ds are least same hits count) = let never : Some d.docid ≡ None = sym least ∙ ap (least_from None) (sym stands.1) ∙ none in cc
    by (Nothing least same hits count) =
        let tree = tree_of q in
        let entries : entry_count tree documents ≡ entry_count tree [] = ap (sum_by place_count) same in
        let to_come : steps_to_come tree documents ≡ steps_to_come tree [] =
        ap (λ n. 32 * n + 8 * width tree * candidate_count tree documents) entries ∙ ap (λ n. 32 * entry_count tree [] + 8 * width tree * n) count in
        record {
          offsets = [];
          went = record {
            rest = [];
            stands = (no_documents, stands.1 ∙ same);
            hits_are = hits;
            at_most = omega arith;
            at_least = omega arith;
          };
          told = tt;
          ended = λ _. refl;
        }

-- What an answer of offsets for the document of this docid adds: its hit, if there is one, of whose
-- offsets the wanted ones are told.
pub record Adds (wanted : Wanted) (old new : Walk) (docid : ℤ) (answer : Option (List Offset)) (documents : List Document) : Type 0 where
  pub offsets : List Offset
  pub went : Went old new (hit_at (option_map (λ (o : List Offset). docid) answer) offsets) documents
  pub told : IfSome answer (λ o. o ≡ if_wanted wanted offsets)

-- the offsets that are wanted, where the document is accepted
abbrev answer_here : Wanted → Tree → Document → Bool → Option (List Offset)
answer_here wanted tree d v = if v then Some (if_wanted wanted (offsets_of d.postings tree)) else None

hits_here : (wanted : Wanted) (docid : ℤ) (answer : Option (List Offset)) (tree : Tree) (d : Document) (ds : List Document) → d.docid ≡ docid
    → answer ≡ answer_here wanted tree d (accepts d.postings tree) →
    hits_of tree (d ∷ ds) ≡ hit_at (option_map (λ (o : List Offset). docid) answer) (offsets_of d.postings tree) ++ hits_of tree ds
hits_here wanted docid answer tree d ds one here = grind arith

told_here : (wanted : Wanted) (answer : Option (List Offset)) (tree : Tree) (d : Document) (v : Bool) → answer ≡ answer_here wanted tree d v
    → IfSome answer (λ o. o ≡ if_wanted wanted (offsets_of d.postings tree))
told_here wanted answer tree d true here = subst (λ a. IfSome a (λ o. o ≡ if_wanted wanted (offsets_of d.postings tree))) (sym here) refl
told_here wanted answer tree d false here = subst (λ a. IfSome a (λ o. o ≡ if_wanted wanted (offsets_of d.postings tree))) (sym here) tt

-- where this is the least docid left
pub one_left : (wanted : Wanted) (q : Query) (ls : List (List PlaceList)) (s t : ℕ) (docid : ℤ) (offsets : Option (List Offset)) (documents : List Document)
    → AreDocuments documents × (ls ≡ lists_of (tree_of q) documents) → least_from None ls ≡ Some docid →
    ((postings : List Posting) → AllPairs IsBefore postings → map (places_at docid) ls ≡ map (listed_places postings) (terms_in (tree_of q)) → offsets
    ≡ (if accepts postings (tree_of q) then Some (if_wanted wanted (offsets_of postings (tree_of q))) else None)) →
    t ≤ s + 32 * sum_by length (map (places_at docid) ls) + 8 * width (tree_of q) → min (s + 1) (2 ^ 64 - 1) ≤ t →
    Adds wanted (record { query = q; lists = ls; steps = s }) (record { query = q; lists = map (passed docid) ls; steps = t }) docid offsets documents
one_left wanted q ls s t docid offsets documents stands least given at_most at_least = by (next_of (tree_of q) documents stands.0)
  where
    by : Next (tree_of q) documents
        → Adds wanted (record { query = q; lists = ls; steps = s }) (record { query = q; lists = map (passed docid) ls; steps = t }) docid offsets documents
    by (Nothing none same hits count) = let never : Some docid ≡ None = sym least ∙ ap (least_from None) stands.1 ∙ none in cc
    by (First d ds are first same hits count) =
        let tree = tree_of q in
        let one : d.docid ≡ docid = cc (sym first ∙ ap (least_from None) (sym stands.1) ∙ least) in
        let later = recursion_from_All (λ (e : Document). d.docid <ℤ e.docid) ds (pairs_head (λ (a b : Document). a.docid <ℤ b.docid) d ds are.rising) in
        let lists : ls ≡ map (listed_for (d ∷ ds)) (terms_in tree) = stands.1 ∙ same in
        let places : map (places_at docid) ls ≡ map (listed_places d.postings) (terms_in tree) =
        ap (λ z. map (places_at z) ls) (sym one) ∙ ap (map (places_at d.docid)) lists ∙ all_places d ds later (terms_in tree) in
        let left : map (passed docid) ls ≡ lists_of tree ds =
        ap (λ z. map (passed z) ls) (sym one) ∙ ap (map (passed d.docid)) lists ∙ all_passed d ds later (terms_in tree) in
        let here : offsets ≡ answer_here wanted tree d (accepts d.postings tree) =
        given d.postings (All-head (λ (e : Document). AllPairs IsBefore e.postings) d ds are.ordered) places in
        let entries : entry_count tree documents ≡ sum_by length (map (places_at docid) ls) + entry_count tree ds =
        ap (sum_by place_count) same ∙ all_counted d ds later (terms_in tree) ∙ ap (λ ps. sum_by length ps + entry_count tree ds) (sym places) in
        let product : 8 * width tree * candidate_count tree documents ≡ 8 * width tree * candidate_count tree ds + 8 * width tree =
        ap (λ n. 8 * width tree * n) (count ∙ omega arith) ∙ mul-suc (8 * width tree) (candidate_count tree ds) in
        record {
          offsets = offsets_of d.postings tree;
          went = record {
            rest = ds;
            stands = (are_more d ds are, left);
            hits_are = hits ∙ hits_here wanted docid offsets tree d ds one here;
            at_most = omega arith;
            at_least = omega arith;
          };
          told = told_here wanted offsets tree d (accepts d.postings tree) here;
        }

-- the same, of cursors and the steps of the calls
pub went_on : (wanted : Wanted) (q : Query) (cursors passed_by : List Cursor) (s a b t : Steps) (docid : ℤ) (offsets : Option (List Offset))
    (documents : List Document) → StandsBefore (walk_at q cursors s.taken) documents → least_from None (map lists_left cursors) ≡ Some docid →
    ((postings : List Posting) → AllPairs IsBefore postings → map (λ c. places_at docid (lists_left c)) cursors ≡ map (listed_places postings)
    (terms_in (tree_of q)) → offsets ≡ (if accepts postings (tree_of q) then Some (if_wanted wanted (offsets_of postings (tree_of q))) else None)) →
    map lists_left passed_by ≡ map (passed docid) (map lists_left cursors) → length cursors ≡ length
    (terms_in (tree_of q)) → s.taken ≤ a.taken → a.taken ≤ s.taken + length cursors →
    TakesAtMost (12 * sum_by (λ c. length (places_at docid (lists_left c))) cursors + 3 * width (tree_of q)) a b →
    more_steps (length cursors + node_count (tree_of q)) a ≤ b.taken → TakesSteps (length cursors) b t →
    Adds wanted (walk_at q cursors s.taken) (walk_at q passed_by t.taken) docid offsets documents
went_on wanted q cursors passed_by s a b t docid offsets documents stands least given left number first_least first_most visit nodes last =
    let some = some_nodes (tree_of q) in
    let visit_most = visit.at_most in
    let pass = last.taken in
    let ls = map lists_left cursors in
    let same : map (places_at docid) ls ≡ map (λ c. places_at docid (lists_left c)) cursors = map-map (places_at docid) lists_left cursors in
    let sum : sum_by length (map (places_at docid) ls) ≡ sum_by (λ c. length (places_at docid (lists_left c))) cursors =
    ap (sum_by length) same ∙ sum_mapped (λ c. places_at docid (lists_left c)) cursors in
    let terms = terms_width (tree_of q) in
    let went =
    one_left wanted q ls s.taken t.taken docid offsets documents stands least (λ postings ordered here. given postings ordered (sym same ∙ here)) (omega arith)
    (omega arith) in
    subst (λ new. Adds wanted (walk_at q cursors s.taken) (record { query = q; lists = new; steps = t.taken }) docid offsets documents) (sym left) went
  where
    sum_mapped : {X : Type 0} (f : X → List Place) (xs : List X) → sum_by length (map f xs) ≡ sum_by (λ x. length (f x)) xs
    sum_mapped f [] = refl
    sum_mapped f (x ∷ xs) =
        omega (arith, sum_mapped f xs, sum_by-cons length (f x) (map f xs), sum_by-cons (λ y. length (f y)) x xs)

-- ---- what a pass leaves

fewer : (docid : ℤ) (l : List PlaceList) → length (passed docid l) ≤ length l
fewer docid [] = omega arith
fewer docid (x ∷ l) = elim (int_eq x.docid docid) as (λ v. length (cond v l (x ∷ l)) ≤ length (x ∷ l)) [ true ↦ omega arith | false ↦ omega arith ]

none_more : (docid : ℤ) (ls : List (List PlaceList)) → sum_by length (map (passed docid) ls) ≤ sum_by length ls
none_more docid [] = omega arith
none_more docid (l ∷ ls) = search (rules, none_more docid ls, fewer, sum_by-cons)

-- the least is the docid so far, or one list gets shorter
less_left : (docid : ℤ) (so_far : Option ℤ) (ls : List (List PlaceList)) → least_from so_far ls ≡ Some docid
    → (so_far ≡ Some docid) ⊎ (sum_by length (map (passed docid) ls) < sum_by length ls)
less_left docid so_far [] least = inl least
less_left docid so_far (l ∷ ls) least = search (rules, less_left docid (least_of so_far l) ls least, none_more, sum_by-cons, Decides-int_eq, common_steps)

passes_one : (docid : ℤ) (ls : List (List PlaceList)) → least_from None ls ≡ Some docid → sum_by length (map (passed docid) ls) < sum_by length ls
passes_one docid ls least = grind (arith, nat_tests, less_left docid None ls least)

pub fewer_left : (docid : ℤ) (cursors passed_by : List Cursor) → least_from None (map lists_left cursors) ≡ Some docid
    → map lists_left passed_by ≡ map (passed docid) (map lists_left cursors) →
    sum_by length (map lists_left passed_by) < sum_by length (map lists_left cursors)
fewer_left docid cursors passed_by least left = grind (arith, nat_tests, passes_one docid (map lists_left cursors) least)

-- ---- one walk after the other

abbrev pub went_then : (q : Query) (a b c : List (List PlaceList)) (s t u : ℕ) (hits : List PlainHit) (documents : List Document) →
    (first : Went (record { query = q; lists = a; steps = s }) (record { query = q; lists = b; steps = t }) [] documents) →
    Went (record { query = q; lists = b; steps = t }) (record { query = q; lists = c; steps = u }) hits first.rest →
    Went (record { query = q; lists = a; steps = s }) (record { query = q; lists = c; steps = u }) hits documents
went_then q a b c s t u hits documents first then_on = record {
  rest = then_on.rest;
  stands = then_on.stands;
  hits_are = first.hits_are ∙ then_on.hits_are;
  at_most = omega (arith, first.at_most, then_on.at_most);
  at_least = omega (arith, first.at_least, then_on.at_least);
}
