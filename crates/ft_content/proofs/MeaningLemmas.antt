-- The posting lists of a content mean its documents.
use Rattle.std.specs.Result.{result_unwrap_or}
use Rattle.std.proofs.Common.{◌≡◌, ℕ, ◌+◌, ◌<◌, Bool, true, false, cond, T, ◌&&◌, ◌||◌, inl, inr, List, [], ◌∷◌, ◌++◌, map, Some, None, Option, ℤ, suc, length, refl, sym, ap, subst, ◌∙◌, arith, filter, unwrap_or, AllPairs, slice_index_or, ◌<ℤ◌}
use Rattle.std.specs.Cmp.Lexicographic.{slice_cmp, nat_list_cmp_total}
use Rattle.std.proofs.lemmas.List.Elements.{All-map, All-from_recursion}
use Rattle.std.proofs.lemmas.List.Sums.{sum_by-cons}
use Rattle.std.proofs.lemmas.List.Kept.{AllPairs-cons, AllPairs-filter}
use Rattle.std.proofs.lemmas.Cmp.{on_total, then_total}
use Rattle.std.proofs.lemmas.Map.Lookups.{exact_unsigned, exact_signed, exact_bytes}
use Rattle.ft_match.specs.Tokens.{PlainToken, tokens_of}
use Rattle.ft_match.specs.Documents.{Posting, Document, IsBefore, AreDocuments, PlaceList, is_filled, postings_of, documents_of, lists_with, place_count}
use Rattle.ft_match.specs.Occurs.{PlainHit, accepts, offsets_of, hits_of}
use Rattle.ft_content.proofs.Common.{option_map_or, list_any, list_all, flat_map, AllByRecursion, Ordering, Less, Equal, Greater, MatchOrdering, nat_cmp, int_cmp, int_eq, eq_by_cmp, is_eq, is_lt, ordering_then, IsTotalOrder, ranks, int_ranks, nat_cmp_total, int_cmp_total, tied_itself, by_order, put, find, below_all, is_sorted, is_sorted-put, find-put, same_entries, and_parts, and_from, list_any-append, Tree, Cell, Documents, Content, indexed_text, document_tokens, document_postings, Spot, Entry, entry_at, document_entries, Key, key_cmp, key_of, SpotLists, spots_at}
use Rattle.ft_content.specs.Content.{Column}
use Rattle.ft_content.specs.Index.{entries, spot_lists, index_rows}
use Rattle.ft_content.specs.Answer.{chosen}
use Rattle.ft_content.specs.Meaning.{content_documents, list_entries, entries_in, entry_cmp, entry_set, with_entry, grouped, documents_in, ListsMeanDocuments, hit_in, HitsAreChosen, lists_with_terms, all_places, TermsAreTheirLists, TermsAreCounted, DocumentsAreInOrder}
use Rattle.ft_content.proofs.IndexLemmas.{key_cmp_total, key_cmp_exact}
use Rattle.ft_content.proofs.PlanLemmas.{sorted_lists}

true_of : (b : Bool) → T b → b ≡ true
true_of true h = refl
true_of false h = absurd h

of_true : (b : Bool) → b ≡ true → T b
of_true b h = subst T (sym h) tt

less_of : (o : Ordering) → is_lt o ≡ true → o ≡ Less
less_of Less h = refl
less_of Equal h = absurd (let no = h in cc)
less_of Greater h = absurd (let no = h in cc)

-- ---- the lists of entries have those entries

abbrev entry_of : Key → Spot → Entry
entry_of k s = record { term = k.0; docid = k.1; spot = s }

abbrev flat : SpotLists → List Entry
flat lists = flat_map (λ l. map (entry_of l.0) l.1) lists

below_more : (x y : Key) (ls : SpotLists) → key_cmp x y ≡ Less → below_all key_cmp y ls ≡ true → below_all key_cmp x ls ≡ true
below_more x y [] h b = refl
below_more x y (l ∷ ls) h b =
    let parts = and_parts (is_lt (key_cmp y l.0)) (below_all key_cmp y ls) b in
    and_from (is_lt (key_cmp x l.0)) (below_all key_cmp x ls) (ap is_lt (key_cmp_total.trans x y l.0 h (less_of _ parts.0))) (below_more x y ls h parts.1)

none_below : (k : Key) (ls : SpotLists) → below_all key_cmp k ls ≡ true → find key_cmp k ls ≡ None
none_below k [] h = refl
none_below k (l ∷ ls) h =
    let parts = and_parts (is_lt (key_cmp k l.0)) (below_all key_cmp k ls) h in
    ap (λ o. cond (is_eq o) (Some l.1) (find key_cmp k ls)) (less_of _ parts.0) ∙ none_below k ls parts.1

or_swap : (a b c : Bool) → (a || (b || c)) ≡ (b || (a || c))
or_swap true true c = refl
or_swap true false c = refl
or_swap false true c = refl
or_swap false false c = refl

-- a list that gets one more spot
any_put : (p : Entry → Bool) (k : Key) (s : Spot) (ls : SpotLists) → is_sorted key_cmp ls ≡ true → list_any p (flat (put key_cmp k (s ∷ spots_at ls k) ls)) ≡ (p (entry_of k s) || list_any p (flat ls))
any_put p k s [] sorted = refl
any_put p k s (l ∷ ls) sorted =
    let parts = and_parts (below_all key_cmp l.0 ls) (is_sorted key_cmp ls) sorted in
    let here = map (entry_of l.0) l.1 in
    elim (key_cmp k l.0) as (λ o. key_cmp k l.0 ≡ o →
    list_any p (flat (by_order o
    ((k, s ∷ unwrap_or (cond (is_eq o) (Some l.1) (find key_cmp k ls)) []) ∷ l ∷ ls)
    ((l.0, s ∷ unwrap_or (cond (is_eq o) (Some l.1) (find key_cmp k ls)) []) ∷ ls)
    (l ∷ put key_cmp k (s ∷ unwrap_or (cond (is_eq o) (Some l.1) (find key_cmp k ls)) []) ls)))
    ≡ (p (entry_of k s) || list_any p (flat (l ∷ ls)))) [
      | Less ↦ λ below. ap (λ (found : Option (List Spot)). list_any p (flat ((k, s ∷ unwrap_or found []) ∷ l ∷ ls))) (none_below k ls (below_more k l.0 ls below parts.0))
      | Equal ↦ λ same. ap (λ (x : Key). p (entry_of x s) || list_any p (here ++ flat ls)) (sym (key_cmp_exact k l.0 same))
      | Greater ↦ λ above. list_any-append p here (flat (put key_cmp k (s ∷ spots_at ls k) ls)) ∙ ap (λ b. list_any p here || b) (any_put p k s ls parts.1)
          ∙ or_swap (list_any p here) (p (entry_of k s)) (list_any p (flat ls)) ∙ ap (λ b. p (entry_of k s) || b) (sym (list_any-append p here (flat ls)))
    ] refl

any_lists : (p : Entry → Bool) (es : List Entry) → list_any p (flat (spot_lists es)) ≡ list_any p es
unfolding spot_lists
any_lists p [] = refl
any_lists p (e ∷ es) = any_put p (key_of e) e.spot (spot_lists es) (true_of _ (sorted_lists es)) ∙ ap (λ b. p e || b) (any_lists p es)

-- an entry for each spot
stored_entries : (k : Key) (ss : List Spot) → list_entries (k, ss) ≡ map (entry_of k) ss
stored_entries k [] = refl
stored_entries k (s ∷ ss) = ap (λ es. entry_of k s ∷ es) (stored_entries k ss)

stored_flat : (ls : SpotLists) → entries_in ls ≡ flat ls
stored_flat [] = refl
stored_flat (l ∷ ls) = λ i. stored_entries l.0 l.1 i ++ stored_flat ls i

-- ---- sets of entries

pub entry_total : IsTotalOrder entry_cmp
entry_total =
    then_total (on_total (λ (e : Entry). e.docid) int_cmp_total)
    (then_total (on_total (λ (e : Entry). e.spot.column) nat_cmp_total)
    (then_total (on_total (λ (e : Entry). e.spot.pos) nat_cmp_total)
    (then_total (on_total (λ (e : Entry). e.spot.place) nat_cmp_total)
    (then_total (on_total (λ (e : Entry). e.spot.size) nat_cmp_total) (on_total (λ (e : Entry). e.term) nat_list_cmp_total)))))

both_equal : (a b : Ordering) → ordering_then a b ≡ Equal → (a ≡ Equal) × (b ≡ Equal)
both_equal Less b e = absurd (let no = ap is_lt e in cc)
both_equal Equal b e = (refl, e)
both_equal Greater b e = absurd (let no = ap is_eq e in cc)

entry_exact : (x y : Entry) → entry_cmp x y ≡ Equal → x ≡ y
entry_exact x y e =
    let docid = both_equal _ _ e in
    let column = both_equal _ _ docid.1 in
    let position = both_equal _ _ column.1 in
    let place = both_equal _ _ position.1 in
    let size = both_equal _ _ place.1 in
    λ i. record {
      term = exact_bytes x.term y.term size.1 i;
      docid = exact_signed x.docid y.docid docid.0 i;
      spot = record {
        column = exact_unsigned x.spot.column y.spot.column column.0 i;
        pos = exact_unsigned x.spot.pos y.spot.pos position.0 i;
        place = exact_unsigned x.spot.place y.spot.place place.0 i;
        size = exact_unsigned x.spot.size y.spot.size size.0 i;
      };
    }

abbrev keyed : List Entry → List (Entry × Unit {0})
keyed es = map (λ (e : Entry). (e, tt)) es

abbrev if_among : Entry → List Entry → Option (Unit {0})
if_among q es = cond (list_any (λ e. eq_by_cmp entry_cmp q e) es) (Some tt) None

find-entry_set : (q : Entry) (es : List Entry) → find entry_cmp q (entry_set es) ≡ if_among q es
unfolding entry_set
find-entry_set q [] = refl
find-entry_set q (e ∷ es) = find-put entry_cmp entry_total q e tt (entry_set es)
    ∙ elim (eq_by_cmp entry_cmp q e) as (λ b. cond b (Some tt) (find entry_cmp q (entry_set es)) ≡ cond (b || list_any (λ e. eq_by_cmp entry_cmp q e) es) (Some tt) None) [ true ↦ refl | false ↦ find-entry_set q es ]

find-keyed : (q : Entry) (es : List Entry) → find entry_cmp q (keyed es) ≡ if_among q es
find-keyed q [] = refl
find-keyed q (e ∷ es) = elim (eq_by_cmp entry_cmp q e) as (λ b. cond b (Some tt) (find entry_cmp q (keyed es)) ≡ cond (b || list_any (λ e. eq_by_cmp entry_cmp q e) es) (Some tt) None) [ true ↦ refl | false ↦ find-keyed q es ]

pub sorted_set : (es : List Entry) → T (is_sorted entry_cmp (entry_set es))
unfolding entry_set
sorted_set [] = tt
sorted_set (e ∷ es) = is_sorted-put entry_cmp entry_total e tt (entry_set es) (sorted_set es)

-- the set of the same entries in any order
set_is : (es fs : List Entry) → is_sorted entry_cmp (keyed fs) ≡ true → ((p : Entry → Bool) → list_any p es ≡ list_any p fs) → entry_set es ≡ keyed fs
set_is es fs sorted same = same_entries entry_cmp entry_total entry_exact (entry_set es) (keyed fs) (sorted_set es) (of_true _ sorted)
    (λ q. find-entry_set q es ∙ ap (λ b. cond b (Some tt) None) (same (λ e. eq_by_cmp entry_cmp q e)) ∙ sym (find-keyed q fs))

unkeyed : (es : List Entry) → map (λ (e : Entry × Unit {0}). e.0) (keyed es) ≡ es
unkeyed [] = refl
unkeyed (e ∷ es) = ap (λ es. e ∷ es) (unkeyed es)

-- ---- the entries of a content are in order

less_than : (x y : ℕ) → x < y → nat_cmp x y ≡ Less
less_than x y h = elim (nat_cmp x y) as (λ o. nat_cmp x y ≡ o → o ≡ Less) [
  | Less ↦ λ e. refl
  | Equal ↦ λ e. absurd (let same = exact_unsigned x y e in omega arith)
  | Greater ↦ λ e. absurd (let above : y < x = subst (λ r. MatchOrdering r (x < y) (x ≡ y) (y < x)) e (ranks x y) in omega arith)
] refl

equal_to : (x y : ℕ) → x ≡ y → nat_cmp x y ≡ Equal
equal_to x y h = subst (λ z. nat_cmp x z ≡ Equal) h (tied_itself nat_cmp_total x)

then_lt : (o r : Ordering) → is_lt o ≡ true → is_lt (ordering_then o r) ≡ true
then_lt Less r h = refl
then_lt Equal r h = absurd (let no = h in cc)
then_lt Greater r h = absurd (let no = h in cc)

before_less : (x : ℤ) (p q : Posting) → IsBefore p q → is_lt (entry_cmp (entry_at x p) (entry_at x q)) ≡ true
before_less x p q (inl column) =
    ap (λ o. is_lt (ordering_then o (ordering_then (nat_cmp p.place.column q.place.column) (rest p q)))) (tied_itself int_cmp_total x)
    ∙ ap (λ o. is_lt (ordering_then o (rest p q))) (less_than p.place.column q.place.column column)
  where
    rest : Posting → Posting → Ordering
    rest p q = ordering_then (nat_cmp p.place.pos q.place.pos) (ordering_then (nat_cmp p.place.start q.place.start) (ordering_then (nat_cmp p.place.size q.place.size) (slice_cmp nat_cmp p.term q.term)))
before_less x p q (inr h) =
    ap (λ o. is_lt (ordering_then o (ordering_then (nat_cmp p.place.column q.place.column) (ordering_then (nat_cmp p.place.pos q.place.pos) (last p q))))) (tied_itself int_cmp_total x)
    ∙ ap (λ o. is_lt (ordering_then o (ordering_then (nat_cmp p.place.pos q.place.pos) (last p q)))) (equal_to p.place.column q.place.column h.0)
    ∙ ap (λ o. is_lt (ordering_then o (last p q))) (less_than p.place.pos q.place.pos h.1)
  where
    last : Posting → Posting → Ordering
    last p q = ordering_then (nat_cmp p.place.start q.place.start) (ordering_then (nat_cmp p.place.size q.place.size) (slice_cmp nat_cmp p.term q.term))

abbrev above : ℤ → Entry → Bool
above x e = is_lt (int_cmp x e.docid)

below_from : (x : ℤ) (p : Posting) (es : List Entry) → list_all (above x) es ≡ true → below_all entry_cmp (entry_at x p) (keyed es) ≡ true
below_from x p [] h = refl
below_from x p (e ∷ es) h =
    let parts = and_parts (above x e) (list_all (above x) es) h in
    and_from (is_lt (entry_cmp (entry_at x p) e)) (below_all entry_cmp (entry_at x p) (keyed es)) (then_lt (int_cmp x e.docid) _ parts.0) (below_from x p es parts.1)

abbrev Rises : Posting → List Posting → Type 0
Rises p ps = (k : ℕ) (d : Posting) → k < length ps → IsBefore p (slice_index_or ps k d)

below_rest : (x : ℤ) (p : Posting) (ps : List Posting) (es : List Entry) → Rises p ps → list_all (above x) es ≡ true → below_all entry_cmp (entry_at x p) (keyed (map (entry_at x) ps ++ es)) ≡ true
below_rest x p [] es rises h = below_from x p es h
below_rest x p (q ∷ qs) es rises h =
    and_from (is_lt (entry_cmp (entry_at x p) (entry_at x q))) (below_all entry_cmp (entry_at x p) (keyed (map (entry_at x) qs ++ es)))
    (before_less x p q (rises 0 q (omega arith))) (below_rest x p qs es (λ k d inside. rises (suc k) d (omega arith)) h)

sorted_one : (x : ℤ) (ps : List Posting) (es : List Entry) → AllPairs IsBefore ps → list_all (above x) es ≡ true → is_sorted entry_cmp (keyed es) ≡ true → is_sorted entry_cmp (keyed (map (entry_at x) ps ++ es)) ≡ true
sorted_one x [] es pairs h sorted = sorted
sorted_one x (p ∷ ps) es pairs h sorted =
    and_from (below_all entry_cmp (entry_at x p) (keyed (map (entry_at x) ps ++ es))) (is_sorted entry_cmp (keyed (map (entry_at x) ps ++ es)))
    (below_rest x p ps es (λ k d inside. pairs 0 (suc k) d (omega arith) (omega arith)) h)
    (sorted_one x ps es (λ i j d before inside. pairs (suc i) (suc j) d (omega arith) (omega arith)) h sorted)

all_of_one : (x y : ℤ) (ps : List Posting) (es : List Entry) → is_lt (int_cmp x y) ≡ true → list_all (above x) es ≡ true → list_all (above x) (map (entry_at y) ps ++ es) ≡ true
all_of_one x y [] es h rest = rest
all_of_one x y (p ∷ ps) es h rest = and_from (above x (entry_at y p)) (list_all (above x) (map (entry_at y) ps ++ es)) h (all_of_one x y ps es h rest)

-- documents of which each has these postings
abbrev Postings : Type 0
Postings = ℤ × List Cell → List Posting

abbrev entries_with : Postings → Documents → List Entry
entries_with ps ds = flat_map (λ (d : ℤ × List Cell). map (entry_at d.0) (ps d)) ds

all_above : (x : ℤ) (ps : Postings) (ds : Documents) → below_all int_cmp x ds ≡ true → list_all (above x) (entries_with ps ds) ≡ true
all_above x ps [] h = refl
all_above x ps (d ∷ ds) h =
    let parts = and_parts (is_lt (int_cmp x d.0)) (below_all int_cmp x ds) h in
    all_of_one x d.0 (ps d) (entries_with ps ds) parts.0 (all_above x ps ds parts.1)

sorted_entries : (ps : Postings) → ((d : ℤ × List Cell) → AllPairs IsBefore (ps d)) → (ds : Documents) → is_sorted int_cmp ds ≡ true → is_sorted entry_cmp (keyed (entries_with ps ds)) ≡ true
sorted_entries ps rise [] h = refl
sorted_entries ps rise (d ∷ ds) h =
    let parts = and_parts (below_all int_cmp d.0 ds) (is_sorted int_cmp ds) h in
    sorted_one d.0 (ps d) (entries_with ps ds) (rise d) (all_above d.0 ps ds parts.0) (sorted_entries ps rise ds parts.1)

abbrev pub TextsRise : Type 0
TextsRise = (texts : List (List ℕ)) → AllPairs IsBefore (postings_of (map tokens_of texts))

-- the indexed texts of a document
abbrev document_texts : List Column → List Cell → List (List ℕ)
document_texts [] cells = []
document_texts (column ∷ columns) [] = []
document_texts (column ∷ columns) (cell ∷ cells) = indexed_text column cell ∷ document_texts columns cells

tokens_are : (columns : List Column) (cells : List Cell) → map tokens_of (document_texts columns cells) ≡ document_tokens columns cells
tokens_are [] cells = refl
tokens_are (column ∷ columns) [] = refl
tokens_are (column ∷ columns) (cell ∷ cells) = ap (λ ts. tokens_of (indexed_text column cell) ∷ ts) (tokens_are columns cells)

-- the postings of a document
pub document_rises : TextsRise → (columns : List Column) (cells : List Cell) → AllPairs IsBefore (document_postings columns cells)
document_rises rise columns cells = subst (λ ts. AllPairs IsBefore (postings_of ts)) (tokens_are columns cells) (rise (document_texts columns cells))

-- ---- entries in order, by documents

abbrev first_apart : ℤ → List Document → Type 0
first_apart x [] = Unit {0}
first_apart x (d ∷ ds) = int_eq x d.docid ≡ false

abbrev document_at : ℤ → List Posting → Document
document_at x ps = record { docid = x; postings = ps }

begins : (x : ℤ) (p : Posting) (ds : List Document) → first_apart x ds → with_entry (entry_at x p) ds ≡ document_at x (p ∷ []) ∷ ds
begins x p [] h = refl
begins x p (d ∷ ds) h = ap (λ b. cond b (document_at d.docid (p ∷ d.postings) ∷ ds) (document_at x (p ∷ []) ∷ d ∷ ds)) h

group_one : (x : ℤ) (ps : List Posting) (es : List Entry) (ds : List Document) → grouped es ≡ ds → first_apart x ds → grouped (map (entry_at x) ps ++ es) ≡ cond (is_filled ps) (document_at x ps ∷ ds) ds
unfolding grouped
group_one x [] es ds is h = is
group_one x (p ∷ []) es ds is h = ap (with_entry (entry_at x p)) is ∙ begins x p ds h
group_one x (p ∷ q ∷ ps) es ds is h = ap (with_entry (entry_at x p)) (group_one x (q ∷ ps) es ds is h)
    ∙ ap (λ o. cond (is_eq o) (document_at x (p ∷ q ∷ ps) ∷ ds) (document_at x (p ∷ []) ∷ document_at x (q ∷ ps) ∷ ds)) (tied_itself int_cmp_total x)

abbrev documents_with : Postings → Documents → List Document
documents_with ps ds = filter (λ (d : Document). is_filled d.postings) (map (λ (d : ℤ × List Cell). document_at d.0 (ps d)) ds)

apart_of : (o : Ordering) → is_lt o ≡ true → is_eq o ≡ false
apart_of Less h = refl
apart_of Equal h = absurd (let no = h in cc)
apart_of Greater h = refl

apart_below : (x : ℤ) (ps : Postings) (ds : Documents) → below_all int_cmp x ds ≡ true → first_apart x (documents_with ps ds)
apart_below x ps [] h = tt
apart_below x ps (d ∷ ds) h =
    let parts = and_parts (is_lt (int_cmp x d.0)) (below_all int_cmp x ds) h in
    elim (is_filled (ps d)) as (λ b. first_apart x (cond b (document_at d.0 (ps d) ∷ documents_with ps ds) (documents_with ps ds))) [
      | true ↦ apart_of (int_cmp x d.0) parts.0
      | false ↦ apart_below x ps ds parts.1
    ]

group_all : (ps : Postings) (ds : Documents) → is_sorted int_cmp ds ≡ true → grouped (entries_with ps ds) ≡ documents_with ps ds
unfolding grouped
group_all ps [] h = refl
group_all ps (d ∷ ds) h =
    let parts = and_parts (below_all int_cmp d.0 ds) (is_sorted int_cmp ds) h in
    group_one d.0 (ps d) (entries_with ps ds) (documents_with ps ds) (group_all ps ds parts.1) (apart_below d.0 ps ds parts.0)

-- entries in any order, of which the set is that of documents with postings in order
group_set : (ps : Postings) (ds : Documents) (es : List Entry) → ((d : ℤ × List Cell) → AllPairs IsBefore (ps d)) → is_sorted int_cmp ds ≡ true → ((p : Entry → Bool) → list_any p es ≡ list_any p (entries_with ps ds)) →
    grouped (map (λ (e : Entry × Unit {0}). e.0) (entry_set es)) ≡ documents_with ps ds
group_set ps ds es rise h same =
    ap (λ xs. grouped (map (λ (e : Entry × Unit {0}). e.0) xs)) (set_is es (entries_with ps ds) (sorted_entries ps rise ds h) same)
    ∙ ap grouped (unkeyed (entries_with ps ds))
    ∙ group_all ps ds h

abbrev own_postings : Content → Postings
own_postings content d = document_postings content.columns d.1

entries_are : (content : Content) (ds : Documents) → flat_map (document_entries content.columns) ds ≡ entries_with (own_postings content) ds
entries_are content [] = refl
entries_are content (d ∷ ds) = ap (λ es. document_entries content.columns d ++ es) (entries_are content ds)

documents_are : (content : Content) (ds : Documents) → content_documents (record content { documents = ds }) ≡ documents_with (own_postings content) ds
documents_are content [] = refl
documents_are content (d ∷ ds) = ap (λ xs. cond (is_filled (own_postings content d)) (document_at d.0 (own_postings content d) ∷ xs) xs) (documents_are content ds)

pub lists_mean : TextsRise → ListsMeanDocuments
unfolding documents_in index_rows entries
lists_mean rise table content h =
    let es = flat_map (document_entries content.columns) content.documents in
    ap (λ xs. grouped (map (λ (e : Entry × Unit {0}). e.0) (entry_set xs))) (stored_flat (spot_lists es))
    ∙ group_set (own_postings content) content.documents (flat (spot_lists es)) (λ d. document_rises rise content.columns d.1) h.rising (λ p. any_lists p es ∙ ap (list_any p) (entries_are content content.documents))
    ∙ sym (documents_are content content.documents)

-- ---- the lists of some terms

any-filter : (p q : Entry → Bool) (es : List Entry) → list_any p (filter q es) ≡ list_any (λ e. q e && p e) es
any-filter p q [] = refl
any-filter p q (e ∷ es) = elim (q e) as (λ b. list_any p (cond b (e ∷ filter q es) (filter q es)) ≡ ((b && p e) || list_any (λ e. q e && p e) es)) [ true ↦ ap (λ b. p e || b) (any-filter p q es) | false ↦ any-filter p q es ]

module _ (test : List ℕ → Bool) where
  abbrev has_term : Entry → Bool
  has_term e = test e.term

  abbrev posting_passes : Posting → Bool
  posting_passes p = test p.term

  -- the entries of one list pass or don't together
  one_list : (k : Key) (ss : List Spot) (es : List Entry) → filter has_term (map (entry_of k) ss ++ es) ≡ cond (test k.0) (map (entry_of k) ss ++ filter has_term es) (filter has_term es)
  one_list k [] es = elim (test k.0) as (λ b. filter has_term es ≡ cond b (filter has_term es) (filter has_term es)) [ true ↦ refl | false ↦ refl ]
  one_list k (s ∷ ss) es =
      ap (λ xs. cond (test k.0) (entry_of k s ∷ xs) xs) (one_list k ss es)
      ∙ elim (test k.0) as (λ b. cond b (entry_of k s ∷ cond b (map (entry_of k) ss ++ filter has_term es) (filter has_term es)) (cond b (map (entry_of k) ss ++ filter has_term es) (filter has_term es)) ≡ cond b (map (entry_of k) (s ∷ ss) ++ filter has_term es) (filter has_term es)) [ true ↦ refl | false ↦ refl ]

  lists_passing : (ls : SpotLists) → entries_in (lists_with_terms test ls) ≡ filter has_term (flat ls)
  lists_passing [] = refl
  lists_passing (l ∷ ls) =
      let left = lists_with_terms test ls in
      elim (test l.0.0) as (λ b. entries_in (cond b (l ∷ left) left) ≡ cond b (map (entry_of l.0) l.1 ++ filter has_term (flat ls)) (filter has_term (flat ls))) [
        | true ↦ λ i. stored_entries l.0 l.1 i ++ lists_passing ls i
        | false ↦ lists_passing ls
      ] ∙ sym (one_list l.0 l.1 (flat ls))

  abbrev passing : Postings → Postings
  passing ps d = filter posting_passes (ps d)

  one_passing : (x : ℤ) (ps : List Posting) (es : List Entry) → filter has_term (map (entry_at x) ps ++ es) ≡ map (entry_at x) (filter posting_passes ps) ++ filter has_term es
  one_passing x [] es = refl
  one_passing x (p ∷ ps) es =
      ap (λ xs. cond (test p.term) (entry_at x p ∷ xs) xs) (one_passing x ps es)
      ∙ elim (test p.term) as (λ b. cond b (entry_at x p ∷ (map (entry_at x) (filter posting_passes ps) ++ filter has_term es)) (map (entry_at x) (filter posting_passes ps) ++ filter has_term es) ≡ map (entry_at x) (cond b (p ∷ filter posting_passes ps) (filter posting_passes ps)) ++ filter has_term es) [ true ↦ refl | false ↦ refl ]

  all_passing : (ps : Postings) (ds : Documents) → filter has_term (entries_with ps ds) ≡ entries_with (passing ps) ds
  all_passing ps [] = refl
  all_passing ps (d ∷ ds) = one_passing d.0 (ps d) (entries_with ps ds) ∙ ap (λ es. map (entry_at d.0) (filter posting_passes (ps d)) ++ es) (all_passing ps ds)

  -- a document that has no posting has none that passes
  place_one : (x : ℤ) (ps : List Posting) (ds : List Document) → lists_with test (cond (is_filled ps) (document_at x ps ∷ ds) ds) ≡ map all_places (cond (is_filled (filter posting_passes ps)) (document_at x (filter posting_passes ps) ∷ []) []) ++ lists_with test ds
  place_one x [] ds = refl
  place_one x (p ∷ ps) ds = filled (filter posting_passes (p ∷ ps))
    where
      filled : (qs : List Posting) → cond (is_filled (map (λ (p : Posting). p.place) qs)) (all_places (document_at x qs) ∷ lists_with test ds) (lists_with test ds) ≡ map all_places (cond (is_filled qs) (document_at x qs ∷ []) []) ++ lists_with test ds
      filled [] = refl
      filled (q ∷ qs) = refl

  place_all : (ps : Postings) (ds : Documents) → lists_with test (documents_with ps ds) ≡ map all_places (documents_with (passing ps) ds)
  place_all ps [] = refl
  place_all ps (d ∷ ds) =
      place_one d.0 (ps d) (documents_with ps ds)
      ∙ ap (λ xs. map all_places (cond (is_filled (filter posting_passes (ps d))) (document_at d.0 (filter posting_passes (ps d)) ∷ []) []) ++ xs) (place_all ps ds)
      ∙ elim (is_filled (filter posting_passes (ps d))) as (λ b. map all_places (cond b (document_at d.0 (filter posting_passes (ps d)) ∷ []) []) ++ map all_places (documents_with (passing ps) ds) ≡ map all_places (cond b (document_at d.0 (filter posting_passes (ps d)) ∷ documents_with (passing ps) ds) (documents_with (passing ps) ds))) [ true ↦ refl | false ↦ refl ]

pub terms_are_their_lists : TextsRise → TermsAreTheirLists
unfolding documents_in index_rows entries
terms_are_their_lists rise table content test h =
    let own = own_postings content in
    let es = flat_map (document_entries content.columns) content.documents in
    ap (lists_with test) (documents_are content content.documents)
    ∙ place_all test own content.documents
    ∙ ap (map all_places) (sym (
    ap (λ xs. grouped (map (λ (e : Entry × Unit {0}). e.0) (entry_set xs))) (lists_passing test (spot_lists es))
    ∙ group_set (passing test own) content.documents (filter (has_term test) (flat (spot_lists es)))
    (λ d. AllPairs-filter IsBefore (posting_passes test) (own d) (document_rises rise content.columns d.1)) h.rising
    (λ p. any-filter p (has_term test) (flat (spot_lists es)) ∙ any_lists (λ e. has_term test e && p e) es ∙ sym (any-filter p (has_term test) es)
    ∙ ap (λ xs. list_any p (filter (has_term test) xs)) (entries_are content content.documents) ∙ ap (list_any p) (all_passing test own content.documents))))

-- ---- how many entries lists have

module _ (p : Entry → Bool) where
  abbrev many : List Entry → ℕ
  many es = length (filter p es)

  abbrev one_if : Entry → ℕ
  one_if e = cond (p e) 1 0

  many_cons : (e : Entry) (es : List Entry) → many (e ∷ es) ≡ one_if e + many es
  many_cons e es = elim (p e) as (λ b. length (cond b (e ∷ filter p es) (filter p es)) ≡ cond b 1 0 + many es) [ true ↦ omega arith | false ↦ omega arith ]

  many_append : (es fs : List Entry) → many (es ++ fs) ≡ many es + many fs
  many_append [] fs = omega arith
  many_append (e ∷ es) fs = let rest = many_append es fs in many_cons e (es ++ fs) ∙ (let first = many_cons e es in omega arith)

  many_put : (k : Key) (s : Spot) (ls : SpotLists) → is_sorted key_cmp ls ≡ true → many (flat (put key_cmp k (s ∷ spots_at ls k) ls)) ≡ one_if (entry_of k s) + many (flat ls)
  many_put k s [] sorted = many_cons (entry_of k s) []
  many_put k s (l ∷ ls) sorted =
      let parts = and_parts (below_all key_cmp l.0 ls) (is_sorted key_cmp ls) sorted in
      let here = map (entry_of l.0) l.1 in
      elim (key_cmp k l.0) as (λ o. key_cmp k l.0 ≡ o →
      many (flat (by_order o
      ((k, s ∷ unwrap_or (cond (is_eq o) (Some l.1) (find key_cmp k ls)) []) ∷ l ∷ ls)
      ((l.0, s ∷ unwrap_or (cond (is_eq o) (Some l.1) (find key_cmp k ls)) []) ∷ ls)
      (l ∷ put key_cmp k (s ∷ unwrap_or (cond (is_eq o) (Some l.1) (find key_cmp k ls)) []) ls)))
      ≡ one_if (entry_of k s) + many (flat (l ∷ ls))) [
        | Less ↦ λ below. ap (λ (found : Option (List Spot)). many (flat ((k, s ∷ unwrap_or found []) ∷ l ∷ ls))) (none_below k ls (below_more k l.0 ls below parts.0)) ∙ many_cons (entry_of k s) (flat (l ∷ ls))
        | Equal ↦ λ same. many_cons (entry_of l.0 s) (here ++ flat ls) ∙ ap (λ (x : Key). one_if (entry_of x s) + many (here ++ flat ls)) (sym (key_cmp_exact k l.0 same))
        | Greater ↦ λ above.
            let rest = many_put k s ls parts.1 in
            let all = many_append here (flat ls) in
            many_append here (flat (put key_cmp k (s ∷ spots_at ls k) ls)) ∙ omega arith
      ] refl

  many_lists : (es : List Entry) → many (flat (spot_lists es)) ≡ many es
  unfolding spot_lists
  many_lists [] = refl
  many_lists (e ∷ es) =
      let rest = many_lists es in
      let first = many_cons e es in
      many_put (key_of e) e.spot (spot_lists es) (true_of _ (sorted_lists es)) ∙ omega arith

places_count : (ps : List Posting) → length (map (λ (p : Posting). p.place) ps) ≡ length ps
places_count [] = refl
places_count (p ∷ ps) = ap suc (places_count ps)

entries_count : (x : ℤ) (ps : List Posting) (es : List Entry) → length (map (entry_at x) ps ++ es) ≡ length ps + length es
entries_count x [] es = omega arith
entries_count x (p ∷ ps) es = let rest = entries_count x ps es in omega arith

one_counted : (x : ℤ) (ps : List Posting) (ds : List Document) → place_count (map all_places (cond (is_filled ps) (document_at x ps ∷ ds) ds)) ≡ length ps + place_count (map all_places ds)
one_counted x [] ds = omega arith
one_counted x (p ∷ ps) ds = sum_by-cons (λ (l : PlaceList). length l.places) (all_places (document_at x (p ∷ ps))) (map all_places ds) ∙ ap (λ n. n + place_count (map all_places ds)) (places_count (p ∷ ps))

all_counted : (ps : Postings) (ds : Documents) → place_count (map all_places (documents_with ps ds)) ≡ length (entries_with ps ds)
all_counted ps [] = refl
all_counted ps (d ∷ ds) = one_counted d.0 (ps d) (documents_with ps ds) ∙ ap (λ n. length (ps d) + n) (all_counted ps ds) ∙ sym (entries_count d.0 (ps d) (entries_with ps ds))

pub terms_are_counted : TermsAreCounted
unfolding index_rows entries
terms_are_counted table content test h =
    let own = own_postings content in
    let es = flat_map (document_entries content.columns) content.documents in
    ap (λ ds. place_count (lists_with test ds)) (documents_are content content.documents)
    ∙ ap place_count (place_all test own content.documents)
    ∙ all_counted (passing test own) content.documents
    ∙ sym (ap length (lists_passing test (spot_lists es)) ∙ many_lists (has_term test) es ∙ ap (λ xs. length (filter (has_term test) xs)) (entries_are content content.documents) ∙ ap length (all_passing test own content.documents))

-- ---- the order of documents

documents_rise : (ds : Documents) → is_sorted int_cmp ds ≡ true → AllPairs (λ a b. a.0 <ℤ b.0) ds
documents_rise [] h = λ i j d before inside. absurd (omega arith)
documents_rise (d ∷ ds) h =
    let parts = and_parts (below_all int_cmp d.0 ds) (is_sorted int_cmp ds) h in
    AllPairs-cons (λ (a b : ℤ × List Cell). a.0 <ℤ b.0) d ds (All-from_recursion (λ (b : ℤ × List Cell). d.0 <ℤ b.0) ds (all_rise d.0 ds parts.0)) (documents_rise ds parts.1)
  where
    all_rise : (x : ℤ) (ds : Documents) → below_all int_cmp x ds ≡ true → AllByRecursion (λ (b : ℤ × List Cell). x <ℤ b.0) ds
    all_rise x [] h = tt
    all_rise x (d ∷ ds) h =
        let parts = and_parts (is_lt (int_cmp x d.0)) (below_all int_cmp x ds) h in
        (subst (λ r. MatchOrdering r (x <ℤ d.0) (x ≡ d.0) (d.0 <ℤ x)) (less_of _ parts.0) (int_ranks x d.0), all_rise x ds parts.1)

pairs-map : {X Y : Type 0} (R : Y → Y → Type 0) (f : X → Y) (xs : List X) → AllPairs (λ a b. R (f a) (f b)) xs → AllPairs R (map f xs)
pairs-map R f [] pairs = λ i j d before inside. absurd (omega arith)
pairs-map R f (x ∷ xs) pairs =
    AllPairs-cons R (f x) (map f xs) (All-map (R (f x)) f xs (λ k d inside. pairs 0 (suc k) d (omega arith) (omega arith))) (pairs-map R f xs (λ i j d before inside. pairs (suc i) (suc j) d (omega arith) (omega arith)))

abbrev pub RowsRise : Type 0
RowsRise = (rows : List (ℤ × List (List ℕ))) → AllPairs (λ a b. a.0 <ℤ b.0) rows → AreDocuments (documents_of (map (λ row. (row.0, map tokens_of row.1)) rows))

abbrev text_row : List Column → ℤ × List Cell → ℤ × List (List ℕ)
text_row columns d = (d.0, document_texts columns d.1)

abbrev token_row : List Column → ℤ × List Cell → ℤ × List (List PlainToken)
token_row columns d = (d.0, document_tokens columns d.1)

abbrev tokens_of_row : ℤ × List (List ℕ) → ℤ × List (List PlainToken)
tokens_of_row row = (row.0, map tokens_of row.1)

token_rows : (columns : List Column) (ds : Documents) → map tokens_of_row (map (text_row columns) ds) ≡ map (token_row columns) ds
token_rows columns [] = refl
token_rows columns (d ∷ ds) = λ i. (d.0, tokens_are columns d.1 i) ∷ token_rows columns ds i

pub documents_are_in_order : RowsRise → DocumentsAreInOrder
documents_are_in_order rise table content h =
    subst (λ rows. AreDocuments (documents_of rows)) (token_rows content.columns content.documents)
    (rise (map (text_row content.columns) content.documents) (pairs-map (λ (a b : ℤ × List (List ℕ)). a.0 <ℤ b.0) (text_row content.columns) content.documents (documents_rise content.documents h.rising)))

-- ---- hits

module _ (columns : List Column) (tree : Tree) (left_out : accepts [] tree ≡ false) where
  abbrev hit : Document → PlainHit
  hit d = record { docid = d.docid; offsets = offsets_of d.postings tree }

  abbrev hits : List Document → List PlainHit
  hits ds = map hit (filter (λ (d : Document). accepts d.postings tree) ds)

  hit_one : (x : ℤ) (ps : List Posting) (ds : List Document) → hits (cond (is_filled ps) (document_at x ps ∷ ds) ds) ≡ cond (accepts ps tree) (hit (document_at x ps) ∷ hits ds) (hits ds)
  hit_one x [] ds = ap (λ b. cond b (hit (document_at x []) ∷ hits ds) (hits ds)) (sym left_out)
  hit_one x (p ∷ ps) ds = elim (accepts (p ∷ ps) tree) as (λ b. map hit (cond b (document_at x (p ∷ ps) ∷ filter (λ (d : Document). accepts d.postings tree) ds) (filter (λ (d : Document). accepts d.postings tree) ds)) ≡ cond b (hit (document_at x (p ∷ ps)) ∷ hits ds) (hits ds)) [ true ↦ refl | false ↦ refl ]

  abbrev passes : ℤ × List Cell → Bool
  passes d = accepts (document_postings columns d.1) tree

  abbrev row_hit : ℤ × List Cell → PlainHit
  row_hit d = hit (document_at d.0 (document_postings columns d.1))

  abbrev own : Postings
  own d = document_postings columns d.1

  pub hit_all : (ds : Documents) → hits (documents_with own ds) ≡ map row_hit (filter passes ds)
  hit_all [] = refl
  hit_all (d ∷ ds) =
      hit_one d.0 (document_postings columns d.1) (documents_with own ds)
      ∙ elim (passes d) as (λ b. cond b (row_hit d ∷ hits (documents_with own ds)) (hits (documents_with own ds)) ≡ map row_hit (cond b (d ∷ filter passes ds) (filter passes ds))) [
        | true ↦ ap (λ hs. row_hit d ∷ hs) (hit_all ds)
        | false ↦ hit_all ds
      ]

pub hits_are_chosen : TextsRise → ((tree : Tree) → accepts [] tree ≡ false) → HitsAreChosen
unfolding chosen
hits_are_chosen rise left_out table content name text tree h reads =
    ap (hits_of tree) (lists_mean rise table content h ∙ documents_are content content.documents)
    ∙ hit_all content.columns tree (left_out tree) content.documents
    ∙ ap (λ r. map (hit_in content tree) (filter (λ (d : ℤ × List Cell). option_map_or (accepts (document_postings content.columns d.1)) (result_unwrap_or r None) false) content.documents)) (sym reads)
