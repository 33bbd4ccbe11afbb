-- The rows that are asked for a content's terms are the lists that a walk wants.
use Rattle.std.proofs.Common.{map-id, ◌≡◌, ℕ, ℤ, ◌+◌, Bool, true, false, cond, Some, None, List, [], ◌∷◌, ◌++◌, map, length, refl, sym, ap, ◌∙◌, suc, arith, subst, IsPermutation, int_eq, ◌≤◌, ◌<◌, ◌&&◌, inl, inr, Option, filter, is_some, AllPairs, ◌<ℤ◌, Ordering, Less, Equal, Greater, nat_cmp, is_eq, add-one, zero, get_or, pos, negsuc, is_lt, nat_lt, ◌==◌, ◌||◌, IsSorted, int_lt}
use Rattle.std.proofs.lemmas.List.Elements.{recursion_from_All, filter_passes}
use Rattle.std.proofs.lemmas.List.Sums.{sum_by-cons}
use Rattle.sqlite_trees.specs.Tree.{IsAscending}
use Rattle.sqlite_keyed.proofs.ListLemmas.{all_map, all_weaker, all-map, map-map, all-flat_map, ascending-append, ascending-map, ascending_weaker, ascending-filter, all-filter}
use Rattle.sqlite_keyed.proofs.SortLemmas.{sorted_unique}
use Rattle.ft_match.specs.Documents.{Place}
use Rattle.ft_values.specs.declared.rows.ListRow.{ListRow}
use Rattle.ft_values.specs.declared.rows.Spot.{Spot}
use Rattle.ft_content.specs.Meaning.{entries_in, entry_cmp, entry_set, posting_of, with_entry, grouped, documents_in, lists_with_terms, all_places}
use Rattle.ft_content.proofs.{entry_total, sorted_set}
use Rattle.ft_rows.specs.declared.terms.Posting.{Posting as Row}
use Rattle.ft_documents.proofs.Common.{AllByRecursion, AllAdjacentBelow, IsAllAdjacentAnswer, length-map, IsPermutation-refl, IsPermutation-cons, IsPermutation-trans, IsPermutation-sym, IsPermutation-middle, IsPermutation-map, length_permutation, ordering_then, ordering_reverse, IsTotalOrder, nat_cmp_total, int_cmp_total, nat_cmp_is, int_cmp_is, tied_itself, on_total, then_total, by_order, put, find, length-put, where_key, recursion_from_All, PlaceList, place_count, Posting, Document, IsBefore, AreDocuments, is_filled, has_places, places_with, lists_with, ListKey, list_key_cmp, shown_list, bare_list, spot_count, Entry, Key, joined_posting, lists_of_postings, place_of, spot_in, read_list, list_of, placed_in, all_in, posting_cmp, AreListsOf, rise}
use Rattle.ft_documents.proofs.KeyedRows.{same_int}

-- ---- postings by document

joined_count : (p : Row) (ls : List (ℤ × List Spot)) → spot_count (joined_posting p ls) ≡ suc (spot_count ls)
joined_count p [] = refl
joined_count p (l ∷ ls) =
    let old = sum_by-cons (λ (l : ℤ × List Spot). length l.1) l ls in
    let longer = sum_by-cons (λ (l : ℤ × List Spot). length l.1) (p.docid, p.spot ∷ l.1) ls in
    let added = sum_by-cons (λ (l : ℤ × List Spot). length l.1) (p.docid, p.spot ∷ []) (l ∷ ls) in
    elim (int_eq p.docid l.0) as (λ b. spot_count (cond b ((p.docid, p.spot ∷ l.1) ∷ ls) ((p.docid, p.spot ∷ []) ∷ l ∷ ls)) ≡ suc (spot_count (l ∷ ls))) [ true ↦ omega arith | false ↦ omega arith ]

-- as many places as there are
counted : (ps : List Row) → spot_count (lists_of_postings ps) ≡ length ps
counted [] = refl
counted (p ∷ ps) = joined_count p (lists_of_postings ps) ∙ ap suc (counted ps)

same_count : (ls : List (ℤ × List Spot)) → place_count (map read_list ls) ≡ spot_count ls
same_count [] = refl
same_count (l ∷ ls) =
    let here = length-map l.1 place_of in
    let rest = same_count ls in
    let places = sum_by-cons (λ (l : PlaceList). length l.places) (read_list l) (map read_list ls) in
    let spots = sum_by-cons (λ (l : ℤ × List Spot). length l.1) l ls in
    omega arith

pub same_postings : (ps : List Row) → IsPermutation ps ps
same_postings ps = IsPermutation-refl ps

-- ---- rows as entries

-- an entry without its term
abbrev bare : Entry → Row
bare e = placed_in e.docid (posting_of e).place

listed : (t : List ℕ) (d : ℤ) (ss : List Spot) (xs : List Row) (ys : List Entry) → xs ≡ map bare ys →
    map (placed_in d) (map place_of ss) ++ xs ≡ map bare (map (λ (s : Spot). record { term = t; docid = d; spot = s }) ss ++ ys)
listed t d [] xs ys rest = rest
listed t d (s ∷ ss) xs ys rest = ap (λ ps. placed_in d (place_of s) ∷ ps) (listed t d ss xs ys rest)

abbrev pub of_table : ℤ → List (ListKey × List Spot) → List (Key × List Spot)
of_table tab lists = map (λ (l : ListKey × List Spot). ((l.0.1, l.0.2), l.1)) (where_key list_key_cmp (λ k. int_eq tab k.0) lists)

-- a list without its term
abbrev pub untold : Key × List Spot → ℤ × List Spot
untold l = (l.0.1, l.1)

-- the lists that are asked are those of some terms
pub asked_lists : (tab : ℤ) (asks : ListKey → Bool) (test : List ℕ → Bool) → ((k : ListKey) → asks k ≡ (int_eq tab k.0 && test k.1)) → (lists : List (ListKey × List Spot)) →
    map bare_list (where_key list_key_cmp asks lists) ≡ map untold (lists_with_terms test (of_table tab lists))
asked_lists tab asks test same [] = refl
asked_lists tab asks test same (l ∷ ls) =
    let more = where_key list_key_cmp asks ls in
    let rest = asked_lists tab asks test same ls in
    ap (λ b. map bare_list (cond b (l ∷ more) more)) (same l.0)
    ∙ elim (int_eq tab l.0.0) as (λ b. map bare_list (cond (b && test l.0.1) (l ∷ more) more)
    ≡ map untold (lists_with_terms test (map (λ (l : ListKey × List Spot). ((l.0.1, l.0.2), l.1)) (cond b (l ∷ where_key list_key_cmp (λ k. int_eq tab k.0) ls) (where_key list_key_cmp (λ k. int_eq tab k.0) ls))))) [
      | true ↦ elim (test l.0.1) as (λ b. map bare_list (cond b (l ∷ more) more) ≡ map untold (cond b (((l.0.1, l.0.2), l.1) ∷ lists_with_terms test (of_table tab ls)) (lists_with_terms test (of_table tab ls)))) [
        | true ↦ ap (λ xs. (l.0.2, l.1) ∷ xs) rest
        | false ↦ rest
      ]
      | false ↦ rest
    ]

-- the places of lists are their entries
listed_entries : (ls : List (Key × List Spot)) → all_in (map read_list (map untold ls)) ≡ map bare (entries_in ls)
listed_entries [] = refl
listed_entries (l ∷ ls) = listed l.0.0 l.0.1 l.1 (all_in (map read_list (map untold ls))) (entries_in ls) (listed_entries ls)

-- ---- a set of entries of which none comes twice has them in another order

abbrev firsts : List (Entry × Unit {0}) → List Entry
firsts es = map (λ (e : Entry × Unit {0}). e.0) es

put_moves : (e : Entry) (es : List (Entry × Unit {0})) → find entry_cmp e es ≡ None → IsPermutation (e ∷ firsts es) (firsts (put entry_cmp e tt es))
put_moves e [] none = IsPermutation-refl _
put_moves e (x ∷ xs) none = go (entry_cmp e x.0) none (put_moves e xs)
  where
    go : (o : Ordering) → cond (is_eq o) (Some x.1) (find entry_cmp e xs) ≡ None → (find entry_cmp e xs ≡ None → IsPermutation (e ∷ firsts xs) (firsts (put entry_cmp e tt xs))) →
        IsPermutation (e ∷ x.0 ∷ firsts xs) (firsts (by_order o ((e, tt) ∷ x ∷ xs) ((x.0, tt) ∷ xs) (x ∷ put entry_cmp e tt xs)))
    go Less h more = IsPermutation-refl _
    go Equal h more = absurd (let no = h in cc)
    go Greater h more = IsPermutation-trans _ _ _ (IsPermutation-middle (e ∷ []) x.0 (firsts xs)) (IsPermutation-cons x.0 _ _ (more h))

set_is : (es : List Entry) → (length (entry_set es) ≤ length es) × (length (entry_set es) ≡ length es → IsPermutation es (firsts (entry_set es)))
unfolding entry_set
set_is [] = (omega arith, λ _. IsPermutation-refl _)
set_is (e ∷ es) = go (find entry_cmp e (entry_set es)) refl (length-put entry_cmp entry_total e tt (entry_set es) (sorted_set es)) (set_is es).0 (set_is es).1
  where
    go : (found : Option (Unit {0})) → find entry_cmp e (entry_set es) ≡ found → length (put entry_cmp e tt (entry_set es)) ≡ cond (is_some found) (length (entry_set es)) (length (entry_set es) + 1) → length (entry_set es) ≤ length es →
        (length (entry_set es) ≡ length es → IsPermutation es (firsts (entry_set es))) → (length (put entry_cmp e tt (entry_set es)) ≤ suc (length es)) × (length (put entry_cmp e tt (entry_set es)) ≡ suc (length es) → IsPermutation (e ∷ es) (firsts (put entry_cmp e tt (entry_set es))))
    go (Some x) is grows most more = (omega arith, λ whole. absurd (omega arith))
    go None is grows most more = (omega arith, λ whole. IsPermutation-trans _ _ _ (IsPermutation-cons e _ _ (more (omega arith))) (put_moves e (entry_set es) is))

-- ---- the places of lists, one after another

in_entry : (e : Entry) (ds : List Document) → all_in (map all_places (with_entry e ds)) ≡ bare e ∷ all_in (map all_places ds)
in_entry e [] = refl
in_entry e (d ∷ ds) = go (int_eq e.docid d.docid) refl
  where
    go : (b : Bool) → int_eq e.docid d.docid ≡ b →
        all_in (map all_places (cond b (record { docid = d.docid; postings = posting_of e ∷ d.postings } ∷ ds) (record { docid = e.docid; postings = posting_of e ∷ [] } ∷ d ∷ ds))) ≡ bare e ∷ all_in (map all_places (d ∷ ds))
    go true same = ap (λ x. placed_in x (posting_of e).place ∷ all_in (map all_places (d ∷ ds))) (sym (same_int e.docid d.docid same))
    go false apart = refl

pub in_grouped : (es : List Entry) → all_in (map all_places (grouped es)) ≡ map bare es
unfolding grouped
in_grouped [] = refl
in_grouped (e ∷ es) = in_entry e (grouped es) ∙ ap (λ ps. bare e ∷ ps) (in_grouped es)

pub all_count : (lists : List PlaceList) → length (all_in lists) ≡ place_count lists
all_count [] = refl
all_count (l ∷ ls) =
    Rattle.std.proofs.Common.length-append (map (placed_in l.docid) l.places) (all_in ls)
    ∙ (let here = length-map l.places (placed_in l.docid) in let rest = all_count ls in let both = sum_by-cons (λ (l : PlaceList). length l.places) l ls in omega arith)

-- ---- places in order

pub posting_total : IsTotalOrder posting_cmp
posting_total =
    then_total (on_total (λ (p : Row). p.docid) int_cmp_total)
    (then_total (on_total (λ (p : Row). p.spot.column) nat_cmp_total)
    (then_total (on_total (λ (p : Row). p.spot.pos) nat_cmp_total)
    (then_total (on_total (λ (p : Row). p.spot.place) nat_cmp_total) (on_total (λ (p : Row). p.spot.size) nat_cmp_total))))

abbrev pub Below : Row → Row → Type 0
Below a b = posting_cmp a b ≡ Less

pub below_docid : (a b : Row) → a.docid <ℤ b.docid → Below a b
below_docid a b h = ap (λ o. ordering_then o (ordering_then (nat_cmp a.spot.column b.spot.column) (ordering_then (nat_cmp a.spot.pos b.spot.pos) (ordering_then (nat_cmp a.spot.place b.spot.place) (nat_cmp a.spot.size b.spot.size))))) (sym (int_cmp_is a.docid b.docid Less h))

module _ (x : ℤ) (p q : Place) where
  abbrev by_size : Ordering
  by_size = ordering_then (nat_cmp p.start q.start) (nat_cmp p.size q.size)

  abbrev by_pos : Ordering
  by_pos = ordering_then (nat_cmp p.pos q.pos) by_size

  pub below_column : p.column < q.column → Below (placed_in x p) (placed_in x q)
  below_column column =
      ap (λ o. ordering_then o (ordering_then (nat_cmp p.column q.column) by_pos)) (tied_itself int_cmp_total x)
      ∙ ap (λ o. ordering_then o by_pos) (sym (nat_cmp_is p.column q.column Less column))

  pub below_pos : p.column ≡ q.column → p.pos < q.pos → Below (placed_in x p) (placed_in x q)
  below_pos column before =
      ap (λ o. ordering_then o (ordering_then (nat_cmp p.column q.column) by_pos)) (tied_itself int_cmp_total x)
      ∙ ap (λ o. ordering_then o by_pos) (sym (nat_cmp_is p.column q.column Equal column))
      ∙ ap (λ o. ordering_then o by_size) (sym (nat_cmp_is p.pos q.pos Less before))

below_place : (x : ℤ) (p q : Posting) → IsBefore p q → Below (placed_in x p.place) (placed_in x q.place)
below_place x p q (inl column) = below_column x p.place q.place column
below_place x p q (inr h) = below_pos x p.place q.place h.0 h.1

ascending_from_pairs : {X : Type 0} (R : X → X → Type 0) (xs : List X) → AllPairs R xs → IsAscending R xs
ascending_from_pairs R [] pairs = tt
ascending_from_pairs R (x ∷ xs) pairs =
    (recursion_from_All (R x) xs (λ k d inside. pairs 0 (suc k) d (omega arith) (omega arith)), ascending_from_pairs R xs (λ i j d before inside. pairs (suc i) (suc j) d (omega arith) (omega arith)))

-- lists by rising docid, each with places that rise
pub lists_up : (ls : List PlaceList) → IsAscending (λ a b. a.docid <ℤ b.docid) ls → AllByRecursion (λ (l : PlaceList). IsAscending Below (map (placed_in l.docid) l.places)) ls → IsAscending Below (all_in ls)
lists_up [] up each = tt
lists_up (l ∷ ls) up each =
    ascending-append Below (map (placed_in l.docid) l.places) (all_in ls) each.0 (lists_up ls up.1 each.1)
    (all-map (λ (x : Row). AllByRecursion (Below x) (all_in ls)) (placed_in l.docid)
    (λ p. all-flat_map (Below (placed_in l.docid p)) (λ (m : PlaceList). map (placed_in m.docid) m.places) ls
    (all_weaker (λ (m : PlaceList). l.docid <ℤ m.docid) (λ (m : PlaceList). AllByRecursion (Below (placed_in l.docid p)) (map (placed_in m.docid) m.places))
    (λ m h. all-map (Below (placed_in l.docid p)) (placed_in m.docid) (λ q. below_docid (placed_in l.docid p) (placed_in m.docid q) h) m.places) ls up.0)) l.places)

module _ (test : List ℕ → Bool) where
  pub one_rises : (d : Document) → AllPairs IsBefore d.postings → IsAscending Below (map (placed_in d.docid) (places_with test d).places)
  one_rises d pairs =
      let passing = filter (λ (p : Posting). test p.term) d.postings in
      ascending-map Below (placed_in d.docid) (map (λ (p : Posting). p.place) passing)
      (ascending-map (λ (p q : Place). Below (placed_in d.docid p) (placed_in d.docid q)) (λ (p : Posting). p.place) passing
      (ascending_weaker IsBefore (λ (p q : Posting). Below (placed_in d.docid p.place) (placed_in d.docid q.place)) (below_place d.docid) passing
      (ascending-filter IsBefore (λ (p : Posting). test p.term) d.postings (ascending_from_pairs IsBefore d.postings pairs))))

  docids_up : (ds : List Document) → AreDocuments ds → IsAscending (λ a b. a.docid <ℤ b.docid) (lists_with test ds)
  docids_up ds order =
      ascending-filter (λ a b. a.docid <ℤ b.docid) has_places (map (places_with test) ds)
      (ascending-map (λ a b. a.docid <ℤ b.docid) (places_with test) ds (ascending_from_pairs (λ a b. a.docid <ℤ b.docid) ds order.rising))

  -- what a walk wants rises
  pub lists_rise : (ds : List Document) → AreDocuments ds → IsAscending Below (all_in (lists_with test ds))
  lists_rise ds order =
      let P : PlaceList → Type 0 = λ l. IsAscending Below (map (placed_in l.docid) l.places) in
      lists_up (lists_with test ds) (docids_up ds order) (all-filter P has_places (map (places_with test) ds) (all_map P (places_with test) ds
      (all_weaker (λ (d : Document). AllPairs IsBefore d.postings) (λ (d : Document). P (places_with test d)) one_rises ds (recursion_from_All (λ (d : Document). AllPairs IsBefore d.postings) ds order.ordered))))

-- ---- places in order, by document

abbrev first_apart : ℤ → List (ℤ × List Spot) → Type 0
first_apart x [] = Unit {0}
first_apart x (l ∷ ls) = int_eq x l.0 ≡ false

begins : (x : ℤ) (p : Place) (ls : List (ℤ × List Spot)) → first_apart x ls → joined_posting (placed_in x p) ls ≡ (x, spot_in p ∷ []) ∷ ls
begins x p [] h = refl
begins x p (l ∷ ls) h = ap (λ b. cond b ((x, spot_in p ∷ l.1) ∷ ls) ((x, spot_in p ∷ []) ∷ l ∷ ls)) h

one_group : (x : ℤ) (ps : List Place) (qs : List Row) (ls : List (ℤ × List Spot)) → lists_of_postings qs ≡ ls → first_apart x ls → lists_of_postings (map (placed_in x) ps ++ qs) ≡ cond (is_filled ps) ((x, map spot_in ps) ∷ ls) ls
one_group x [] qs ls is h = is
one_group x (p ∷ []) qs ls is h = ap (joined_posting (placed_in x p)) is ∙ begins x p ls h
one_group x (p ∷ q ∷ ps) qs ls is h = ap (joined_posting (placed_in x p)) (one_group x (q ∷ ps) qs ls is h)
    ∙ ap (λ o. cond (is_eq o) ((x, map spot_in (p ∷ q ∷ ps)) ∷ ls) ((x, spot_in p ∷ []) ∷ (x, map spot_in (q ∷ ps)) ∷ ls)) (tied_itself int_cmp_total x)

abbrev bare_places : PlaceList → ℤ × List Spot
bare_places l = (l.docid, map spot_in l.places)

joined_groups : (ls : List PlaceList) → AllByRecursion (λ l. has_places l ≡ true) ls → IsAscending (λ a b. a.docid <ℤ b.docid) ls → lists_of_postings (all_in ls) ≡ map bare_places ls
joined_groups [] filled up = refl
joined_groups (l ∷ ls) filled up =
    one_group l.docid l.places (all_in ls) (map bare_places ls) (joined_groups ls filled.1 up.1) (apart ls up.0)
    ∙ ap (λ b. cond b (map bare_places (l ∷ ls)) (map bare_places ls)) filled.0
  where
    apart : (ls : List PlaceList) → AllByRecursion (λ b. l.docid <ℤ b.docid) ls → first_apart l.docid (map bare_places ls)
    apart [] up = tt
    apart (b ∷ bs) up = ap is_eq (sym (int_cmp_is l.docid b.docid Less up.0))

places_again : (ps : List Place) → map place_of (map spot_in ps) ≡ ps
places_again ps = map-map place_of spot_in ps ∙ map-id ps

lists_again : (ls : List PlaceList) → map read_list (map bare_places ls) ≡ ls
lists_again [] = refl
lists_again (l ∷ ls) = λ i. record { docid = l.docid; places = places_again l.places i } ∷ lists_again ls i

pub all_groups : (ls : List PlaceList) → AllByRecursion (λ l. has_places l ≡ true) ls → IsAscending (λ a b. a.docid <ℤ b.docid) ls → map read_list (lists_of_postings (all_in ls)) ≡ ls
all_groups ls filled up = ap (map read_list) (joined_groups ls filled up) ∙ lists_again ls

lists_group : (test : List ℕ → Bool) (ds : List Document) → AreDocuments ds → map read_list (lists_of_postings (all_in (lists_with test ds))) ≡ lists_with test ds
lists_group test ds order = all_groups (lists_with test ds) (recursion_from_All _ _ (filter_passes has_places (map (places_with test) ds))) (docids_up test ds order)

-- ---- the rows' lists

module _ (ds : List Document) (order : AreDocuments ds) (test : List ℕ → Bool) (lists : List (Key × List Spot)) where
  -- rows of the lists of some terms give what a walk wants, where these mean it and none of their
  -- entries comes twice
  rows_answer : lists_with test ds ≡ map all_places (documents_in (lists_with_terms test lists)) → place_count (lists_with test ds) ≡ length (entries_in (lists_with_terms test lists)) →
      (rows : List ListRow) → all_in (map list_of rows) ≡ map bare (entries_in (lists_with_terms test lists)) → (found : List PlaceList) → AreListsOf rows found → found ≡ lists_with test ds
  unfolding documents_in
  rows_answer means counted rows are found shown =
      let es = entries_in (lists_with_terms test lists) in
      let set = firsts (entry_set es) in
      let same : all_in (lists_with test ds) ≡ map bare set = ap all_in means ∙ in_grouped set in
      let many : length (entry_set es) ≡ length es =
      sym (length-map (entry_set es) (λ (e : Entry × Unit {0}). e.0)) ∙ sym (length-map set bare) ∙ sym (ap length same) ∙ all_count (lists_with test ds) ∙ counted in
      let moved : IsPermutation (map bare es) (map bare set) = IsPermutation-map bare es set ((set_is es).1 many) in
      let ordered : IsPermutation (all_in (lists_with test ds)) shown.places =
      IsPermutation-trans _ _ _ (subst (λ (ps : List Row). IsPermutation ps (all_in (map list_of rows))) (sym same)
      (subst (λ (ps : List Row). IsPermutation (map bare set) ps) (sym are) (IsPermutation-sym _ _ moved))) shown.same in
      shown.lists
      ∙ ap (λ ps. map read_list (lists_of_postings ps)) (sorted_unique posting_cmp posting_total (all_in (lists_with test ds)) shown.places (lists_rise test ds order) ordered shown.sorted)
      ∙ lists_group test ds order

  -- and the rows that are asked of a store are such
  pub asked_answer : lists_with test ds ≡ map all_places (documents_in (lists_with_terms test lists)) → place_count (lists_with test ds) ≡ length (entries_in (lists_with_terms test lists)) →
      (tab : ℤ) (asks : ListKey → Bool) → ((k : ListKey) → asks k ≡ (int_eq tab k.0 && test k.1)) → (stored : List (ListKey × List Spot)) → of_table tab stored ≡ lists →
      (rows : List ListRow) → map shown_list rows ≡ map bare_list (where_key list_key_cmp asks stored) → (found : List PlaceList) → AreListsOf rows found → found ≡ lists_with test ds
  asked_answer means counted tab asks same stored its rows read =
      rows_answer means counted rows
      (ap all_in (sym (map-map read_list shown_list rows) ∙ ap (map read_list) (read ∙ asked_lists tab asks test same stored)) ∙ listed_entries (lists_with_terms test (of_table tab stored)) ∙ ap (λ ls. map bare (entries_in (lists_with_terms test ls))) its)

-- as many as the rows have
pub lists_count : (rows : List ListRow) → place_count (map list_of rows) ≡ spot_count (map shown_list rows)
lists_count rows = ap place_count (sym (map-map read_list shown_list rows)) ∙ same_count (map shown_list rows)

pub rows_count : (rows : List ListRow) (found : List PlaceList) → AreListsOf rows found → place_count found ≡ spot_count (map shown_list rows)
rows_count rows found shown =
    ap place_count shown.lists ∙ same_count (lists_of_postings shown.places) ∙ counted shown.places ∙ length_permutation (all_in (map list_of rows)) shown.places shown.same
    ∙ all_count (map list_of rows) ∙ lists_count rows

-- ---- what stands before the next

module _ {X : Type 0} (before : X → X → Bool) where
  each_next : (xs : List X) → AllAdjacentBelow (λ x y. true ≡ before x y) xs (length xs) → true ≡ rise before xs
  each_next [] next = refl
  each_next (x ∷ []) next = refl
  each_next (x ∷ y ∷ xs) next =
      let first : true ≡ before x y = next 0 x (omega arith) in
      let rest = each_next (y ∷ xs) (λ k d within. rw add-one (rw add-one at (next (suc k) d (omega (arith, within))))) in
      λ i. first i && rest i

  and_false : (a b : Bool) → false ≡ b → false ≡ (a && b)
  and_false true b h = h
  and_false false b h = refl

  some_not : (xs : List X) (k : ℕ) → k + 1 < length xs → ((d : X) → false ≡ before (get_or xs k d) (get_or xs (k + 1) d)) → false ≡ rise before xs
  some_not [] k within not = absurd (omega (arith, within))
  some_not (x ∷ []) k within not = absurd (omega (arith, within))
  some_not (x ∷ y ∷ xs) zero within not = ap (λ b. b && rise before (y ∷ xs)) (not x)
  some_not (x ∷ y ∷ xs) (suc k) within not =
      and_false (before x y) (rise before (y ∷ xs)) (some_not (y ∷ xs) k (omega (arith, within)) (λ d. rw add-one (rw add-one at (not d))))

  pub neighbours_tell : (xs : List X) (answer : Bool) → IsAllAdjacentAnswer (λ x y b. b ≡ before x y) xs answer → answer ≡ rise before xs
  neighbours_tell xs true next = each_next xs next
  neighbours_tell xs false not = some_not xs not.0 not.1 not.2

-- ---- lists in order are those of their rows

sorted_up : (ps : List Row) → IsAscending Below ps → IsSorted posting_cmp ps
sorted_up [] up k d low within = absurd (omega (arith, within))
sorted_up (p ∷ []) up k d low within = absurd (omega (arith, within))
sorted_up (p ∷ q ∷ ps) up zero d low within = ap is_lt (posting_total.antisymm q p ∙ ap ordering_reverse up.0.0)
sorted_up (p ∷ q ∷ ps) up (suc k) d low within = rw add-one (rw add-one at (sorted_up (q ∷ ps) up.1 k d (omega arith) (omega (arith, within))))

-- a list of a document: its places rise, and there are some
pub record IsList (l : PlaceList) : Type 0 where
  pub rises : IsAscending Below (map (placed_in l.docid) l.places)
  pub filled : has_places l ≡ true

pub lists_in_order : (rows : List ListRow) → IsAscending (λ a b. a.docid <ℤ b.docid) (map list_of rows) → AllByRecursion IsList (map list_of rows) → AreListsOf rows (map list_of rows)
lists_in_order rows up are =
    let lists = map list_of rows in
    let rises : PlaceList → Type 0 = λ l. IsAscending Below (map (placed_in l.docid) l.places) in
    record {
      places = all_in lists;
      same = IsPermutation-refl _;
      sorted = sorted_up (all_in lists) (lists_up lists up (all_weaker IsList rises (λ l is. is.rises) lists are));
      lists = sym (all_groups lists (all_weaker IsList (λ l. has_places l ≡ true) (λ l is. is.filled) lists are) up);
    }
