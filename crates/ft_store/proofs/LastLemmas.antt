-- The last row of a table in the order of the keys, and a part of the docids of the cells that pass.
use Rattle.std.proofs.Common.{◌≡◌, ℤ, Bool, true, false, cond, List, [], ◌∷◌, ◌++◌, map, filter, take, reverse, pos, refl, sym, ap, subst, ◌∙◌, Ordering, Equal, is_gt, IsTrue, None, option_map, slice_get, int_eq, ℕ, not, ◌&&◌, drop, length, ap₂, arith, Option, Some, is_some, unwrap_or, ◌==◌}
use Rattle.ft_store.proofs.Common.{AllByRecursion, eq_by_cmp, IsTotalOrder, find, where_key, back_total, take-map, map-append, IsPermutation-sym}
use Rattle.ft_store.proofs.Common.{IsPermutation-reverse, IsAscending, sort_by, IsPermutation-sort_by, map-map, filter-map, all-append, Null, Int}
use Rattle.ft_store.proofs.Common.{Row, column, id_in, Trees, lit, Output, IsAnswer, overlay, State, Shown, reads_as, then_key, last_key, last_term}
use Rattle.ft_store.proofs.Common.{Cell, CellKey, cell_key_cmp, last_docid_of, list_all, nat_tests, drop-map, then_term, Term, holds, limited}
use Rattle.ft_store.proofs.Common.{as_count, and_parts}
use Rattle.std.proofs.lemmas.Grind.{reverse_onto}
use Rattle.ft_store.specs.Tables.{store_schema}
use Rattle.ft_store.specs.Rows.{keyed, cell_key, cell_entry, value_of}
use Rattle.ft_store.specs.Calls.{IsStore}
use Rattle.ft_store.proofs.Texts.{last_text, docids_text, has_document_text, falling, last_query, last_means, rising, no_limit, no_offset, rest_order}
use Rattle.ft_store.proofs.Texts.{docid_query, docids_query, docids_means, has_document_query, has_document_means}
use Rattle.ft_store.proofs.CantLemmas.{ascending_push}
use Rattle.ft_store.proofs.KeyedLemmas.{sort_by-permutation, sort_by-rising, rises-sort_by, AreApart, at_value, keyed-map, whole_cmp, sorted-keyed}
use Rattle.ft_store.proofs.KeyedLemmas.{none_from, some_first, whole_total, whole_tie}
use Rattle.ft_store.proofs.ChangeLemmas.{all_selected}
use Rattle.ft_store.proofs.TypedLemmas.{tied_cell_keys, cell_key_total, IsCellRow, are_cells}
use Rattle.ft_store.proofs.StoreTables.{cells_apart, turned}
use Rattle.ft_store.proofs.BlameLemmas.{shown_open}
use Rattle.ft_store.proofs.AnswerLemmas.{cmp_ints, same_int, alone, all_tie, all_tie_total, sound_of, keyed_outputs, within}
use Rattle.sqlite.specs.Term.{eval}
use Rattle.ft_store.specs.Docids.{docids_in, cut_to}

-- ---- lists the other way round

all-reverse : {X : Type 0} (P : X → Type 0) (xs : List X) → AllByRecursion P xs → AllByRecursion P (reverse xs)
all-reverse P [] all = tt
all-reverse P (x ∷ xs) all = subst (AllByRecursion P) (sym (reverse_onto xs x [])) (all-append P (reverse xs) (x ∷ []) (all-reverse P xs all.1) (all.0, tt))

ascending-reverse : {X : Type 0} (R : X → X → Type 0) (xs : List X) → IsAscending R xs → IsAscending (λ a b. R b a) (reverse xs)
ascending-reverse R [] up = tt
ascending-reverse R (x ∷ xs) up = subst (IsAscending (λ a b. R b a)) (sym (reverse_onto xs x [])) (ascending_push (λ a b. R b a) (reverse xs) x (ascending-reverse R xs up.1) (all-reverse (R x) xs up.0))

filter-end : {X : Type 0} (p : X → Bool) (xs : List X) (x : X) → filter p (xs ++ x ∷ []) ≡ filter p xs ++ filter p (x ∷ [])
filter-end p [] x = refl
filter-end p (y ∷ ys) x = elim (p y) as (λ b. cond b (y ∷ filter p (ys ++ x ∷ [])) (filter p (ys ++ x ∷ [])) ≡ cond b (y ∷ filter p ys) (filter p ys) ++ filter p (x ∷ [])) [
  | true ↦ ap (λ l. y ∷ l) (filter-end p ys x)
  | false ↦ filter-end p ys x
]

filter-reverse : {X : Type 0} (p : X → Bool) (xs : List X) → filter p (reverse xs) ≡ reverse (filter p xs)
filter-reverse p [] = refl
filter-reverse p (x ∷ xs) =
    ap (filter p) (reverse_onto xs x []) ∙ filter-end p (reverse xs) x ∙ ap (λ l. l ++ filter p (x ∷ [])) (filter-reverse p xs)
    ∙ elim (p x) as (λ b. reverse (filter p xs) ++ cond b (x ∷ []) [] ≡ reverse (cond b (x ∷ filter p xs) (filter p xs))) [ true ↦ sym (reverse_onto (filter p xs) x []) | false ↦ Rattle.std.proofs.Common.append-nil (reverse (filter p xs)) ]

map-reverse : {X Y : Type 0} (f : X → Y) (xs : List X) → map f (reverse xs) ≡ reverse (map f xs)
map-reverse f [] = refl
map-reverse f (x ∷ xs) = ap (map f) (reverse_onto xs x []) ∙ map-append f (reverse xs) (x ∷ []) ∙ ap (λ l. l ++ f x ∷ []) (map-reverse f xs) ∙ sym (reverse_onto (map f xs) (f x) [])

module _ {X : Type 0} (cmp : X → X → Ordering) (total : IsTotalOrder cmp) (tie : (a b : X) → cmp a b ≡ Equal → a ≡ b) where
  abbrev pub back : X → X → Ordering
  back a b = cmp b a

  pub back_tie : (a b : X) → back a b ≡ Equal → a ≡ b
  back_tie a b h = sym (tie b a h)

  pub sort_by-back : (xs : List X) → sort_by back xs ≡ reverse (sort_by cmp xs)
  sort_by-back xs =
      sort_by-permutation back (back_total total) back_tie xs (sort_by cmp xs) (IsPermutation-sym _ _ (IsPermutation-sort_by cmp total xs))
      ∙ sort_by-permutation back (back_total total) back_tie (sort_by cmp xs) (reverse (sort_by cmp xs)) (IsPermutation-reverse (sort_by cmp xs))
      ∙ sort_by-rising back (back_total total) back_tie (reverse (sort_by cmp xs)) (ascending-reverse (λ a b. is_gt (cmp a b) ≡ false) (sort_by cmp xs) (rises-sort_by cmp total tie xs))

-- ---- keys alone

abbrev pub key_alone : CellKey × Cell → CellKey × Unit {0}
key_alone = at_value cell_key_cmp (λ _. tt)

abbrev pub key_entry : Row → CellKey × Unit {0}
key_entry r = (cell_key r, tt)

still_none : (k : CellKey) (es : List (CellKey × Cell)) → find cell_key_cmp k es ≡ None → find cell_key_cmp k (map key_alone es) ≡ None
still_none k [] none = refl
still_none k (e ∷ es) none = let split = some_first (eq_by_cmp cell_key_cmp k e.0) e.1 (find cell_key_cmp k es) none in none_from (eq_by_cmp cell_key_cmp k e.0) tt (find cell_key_cmp k (map key_alone es)) split.0 (still_none k es split.1)

still_apart : (es : List (CellKey × Cell)) → AreApart cell_key_cmp es → AreApart cell_key_cmp (map key_alone es)
still_apart [] apart = tt
still_apart (e ∷ es) apart = (still_none e.0 es apart.0, still_apart es apart.1)

pub keys_apart : (rows : List Row) → AreApart cell_key_cmp (map cell_entry rows) → AreApart cell_key_cmp (map key_entry rows)
keys_apart rows apart = subst (AreApart cell_key_cmp) (map-map key_alone cell_entry rows) (still_apart (map cell_entry rows) apart)

pub keyed_keys : (rows : List Row) → keyed cell_key_cmp (map key_entry rows) ≡ map key_alone (keyed cell_key_cmp (map cell_entry rows))
keyed_keys rows = ap (keyed cell_key_cmp) (sym (map-map key_alone cell_entry rows)) ∙ keyed-map cell_key_cmp (λ _. tt) (map cell_entry rows)

keys_are : (rows : List Row) → AreApart cell_key_cmp (map cell_entry rows)
    → sort_by (whole_cmp cell_key_cmp cell_key_total tied_cell_keys all_tie) (map key_entry rows) ≡ map key_alone (keyed cell_key_cmp (map cell_entry rows))
keys_are rows apart = sorted-keyed cell_key_cmp cell_key_total tied_cell_keys all_tie (map key_entry rows) (keys_apart rows apart) ∙ keyed_keys rows

abbrev found_key : ℤ → Row → CellKey × Unit {0}
found_key tab row = ((tab, id_in (column row 0), id_in (column row 1)), tt)

first_of : (tab : ℤ) (rows : List Row) (cells : List (CellKey × Cell)) → map (found_key tab) rows ≡ take 1 (map key_alone cells)
    → option_map (λ row. id_in (column row 0)) (slice_get rows 0) ≡ option_map (λ c. c.0.1) (slice_get cells 0)
first_of tab [] [] h = refl
first_of tab [] (c ∷ cells) h = absurd cc
first_of tab (r ∷ rows) [] h = absurd cc
first_of tab (r ∷ rows) (c ∷ cells) h = ap (λ l. option_map (λ (k : CellKey × Unit {0}). k.0.1) (slice_get l 0)) h

-- ---- the query

abbrev key_cmp : CellKey × Unit {0} → CellKey × Unit {0} → Ordering
key_cmp = whole_cmp cell_key_cmp cell_key_total tied_cell_keys all_tie

key_total : IsTotalOrder key_cmp
key_total = whole_total cell_key_cmp cell_key_total tied_cell_keys all_tie all_tie_total (λ x y h. refl)

key_tie : (a b : CellKey × Unit {0}) → key_cmp a b ≡ Equal → a ≡ b
key_tie = whole_tie cell_key_cmp cell_key_total tied_cell_keys all_tie all_tie_total (λ x y h. refl)

last_read : (tab : ℤ) (db : Trees) → AllByRecursion IsCellRow (db 5) → AreApart cell_key_cmp (map cell_entry (db 5)) → (rows : List Row) → IsAnswer last_query db (Int tab ∷ []) rows
    → map (found_key tab) rows ≡ take 1 (map key_alone (reverse (where_key cell_key_cmp (λ k. int_eq tab k.0) (keyed cell_key_cmp (map cell_entry (db 5))))))
last_read tab db typed apart rows answer =
    let test = λ (e : CellKey × Unit {0}). int_eq tab e.0.0 in
    let all = keyed cell_key_cmp (map cell_entry (db 5)) in
    ap (map (found_key tab)) answer.shown ∙ sym (take-map (found_key tab) 1 (map (λ (o : Output). o.1) answer.ordered))
    ∙ ap (take 1) (map-map (found_key tab) (λ (o : Output). o.1) answer.ordered
    ∙ all_selected (back key_cmp key_total key_tie) (back_total key_total) key_entry IsCellRow db 5 typed last_query.filter (2 ∷ 3 ∷ []) (falling (1 ∷ 2 ∷ 3 ∷ [])) (lit (Int (pos 1))) (Int tab ∷ []) test (λ o. found_key tab o.1)
    (λ r h. last_term (turned _ _ _ _ h.tab refl))
    (λ r h passed. ap (λ t. ((t, (cell_key r).1, (cell_key r).2), tt)) (same_int tab (cell_key r).0 (sym (last_term (turned _ _ _ _ h.tab refl)) ∙ passed)))
    (λ a b p q _ _. then_key (cmp_ints _ _ _ _ q.tab p.tab) (then_key (cmp_ints _ _ _ _ q.docid p.docid) (last_key (cmp_ints _ _ _ _ q.at p.at))) ∙ alone (cell_key_cmp (cell_key b) (cell_key a)))
    (back_tie key_cmp key_total key_tie) rows answer
    ∙ ap (filter test) (sort_by-back key_cmp key_total key_tie (map key_entry (db 5)) ∙ ap reverse (keys_are (db 5) apart) ∙ sym (map-reverse key_alone all))
    ∙ filter-map test key_alone (reverse all) ∙ ap (map key_alone) (filter-reverse (λ (e : CellKey × Cell). int_eq tab e.0.0) all))

pub last_shown : (tab : ℤ) (old new : State) (rows : List Row) → (IsTrue old.is_open → IsStore old.now) → Shown last_text (Int tab ∷ []) old new rows
    → option_map (λ row. id_in (column row 0)) (slice_get rows 0) ≡ last_docid_of tab (value_of old.now.trees).cells
last_shown tab old new rows if_open h =
    let kept = if_open (shown_open _ _ old new rows h) in
    let sound = sound_of old kept in
    first_of tab rows _
    (last_read tab (overlay old.now.trees []) (are_cells old.now.trees sound) (cells_apart old.now.trees sound kept.numbered.1.1.1.0) rows ((reads_as last_text (Int tab ∷ []) old new store_schema kept.schema _ last_means.is last_means.plain last_means.unlisted rows h).answer Null))

-- ---- LIMIT and OFFSET

cut_is : {X Y : Type 0} (f : X → Y) (most : Option ℕ) (offset : ℕ) (xs : List X) → map f (limited most (drop offset xs)) ≡ cut_to most offset (map f xs)
cut_is f None offset xs = sym (drop-map f offset xs)
cut_is f (Some most) offset xs = sym (ap (take most) (drop-map f offset xs) ∙ take-map f most (drop offset xs))

-- without them the same query gives all rows
abbrev all_rows : (filter : List Term) (limit offset : Term) (db : Trees) (params : Row) (rows : List Row) (answer : IsAnswer (docid_query filter limit offset) db params rows)
    → IsAnswer (docid_query filter no_limit no_offset) db params (map (λ (o : Output). o.1) answer.ordered)
all_rows filter limit offset db params rows answer = record {
  staged = answer.staged;
  grouped = answer.grouped;
  kept = answer.kept;
  distinct = answer.distinct;
  ordered = answer.ordered;
  same = answer.same;
  sorted = answer.sorted;
  shown = refl;
}

-- ---- the docids of the cells that pass

abbrev docid_of : Row → ℤ
docid_of row = id_in (column row 0)

-- what a row of a table is sorted by has its column
abbrev key_of : ℤ → Output → CellKey × Unit {0}
key_of tab o = ((tab, docid_of o.1, id_in (column o.0 1)), tt)

abbrev docid_in : {X : Type 0} → CellKey × X → ℤ
docid_in c = c.0.1

module _ (filter : List Term) (limit offset : Term) (params : Row) (tab : ℤ) (p : CellKey → Bool) (in_table : (k : CellKey) → p k ≡ true → int_eq tab k.0 ≡ true) (tests : (r : Row) → IsCellRow r → list_all (holds (params ∷ r ∷ [])) filter ≡ p (cell_key r))
    (s : State) (kept : IsStore s.now) (rows : List Row) (answer : IsAnswer (docid_query filter limit offset) (overlay s.now.trees []) params rows) where
  -- all of them, before LIMIT and OFFSET
  docids_ordered : map (λ (o : Output). docid_of o.1) answer.ordered ≡ map docid_in (where_key cell_key_cmp p (value_of s.now.trees).cells)
  docids_ordered =
      let sound = sound_of s kept in
      let db = s.now.trees 5 in
      let apart = keys_apart db (cells_apart s.now.trees sound kept.numbered.1.1.1.0) in
      let keys = keyed_outputs cell_key_cmp cell_key_total tied_cell_keys all_tie all_tie_total (λ x y h. refl) key_entry IsCellRow (overlay s.now.trees []) 5 (are_cells s.now.trees sound) apart filter (2 ∷ []) (rising rest_order) params p (key_of tab) tests
      (λ r h passed. ap (λ t. ((t, (cell_key r).1, (cell_key r).2), tt)) (same_int tab (cell_key r).0 (in_table _ passed)))
      (λ a b h k e f. within tab _ _ (in_table _ e) (in_table _ f) (then_key (cmp_ints _ _ _ _ h.docid k.docid) (last_key (cmp_ints _ _ _ _ h.at k.at))))
      _ (all_rows filter limit offset (overlay s.now.trees []) params rows answer) in
      sym (map-map docid_in (key_of tab) answer.ordered)
      ∙ ap (map docid_in) (keys ∙ ap (where_key cell_key_cmp p) (keyed_keys db) ∙ filter-map (λ (e : CellKey × Unit {0}). p e.0) key_alone (keyed cell_key_cmp (map cell_entry db)))
      ∙ map-map docid_in key_alone (where_key cell_key_cmp p (value_of s.now.trees).cells)

  -- the part that the rows give
  docids_given : (most : Option ℕ) (from : ℕ) → as_count (eval limit (params ∷ [])) ≡ most → unwrap_or (as_count (eval offset (params ∷ []))) 0 ≡ from
      → map docid_of rows ≡ cut_to most from (map docid_in (where_key cell_key_cmp p (value_of s.now.trees).cells))
  docids_given most from is begins =
      ap (map docid_of) (answer.shown ∙ ap₂ (λ o n. limited o (drop n (map (λ (o : Output). o.1) answer.ordered))) is begins)
      ∙ cut_is docid_of most from (map (λ (o : Output). o.1) answer.ordered)
      ∙ ap (cut_to most from) (map-map docid_of (λ (o : Output). o.1) answer.ordered ∙ docids_ordered)

pub docids_shown : (tab limit : ℤ) (offset : ℕ) (most : Option ℕ) → as_count (Int limit) ≡ most → (old new : State) (rows : List Row) → (IsTrue old.is_open → IsStore old.now)
    → Shown docids_text (Int tab ∷ Int limit ∷ Int (pos offset) ∷ []) old new rows → map docid_of rows ≡ cut_to most offset (docids_in tab (value_of old.now.trees).cells)
docids_shown tab limit offset most is old new rows if_open h =
    let kept = if_open (shown_open _ _ old new rows h) in
    let params = Int tab ∷ Int limit ∷ Int (pos offset) ∷ [] in
    docids_given docids_query.filter docids_query.limit docids_query.offset params tab (λ k. int_eq tab k.0 && int_eq (pos 0) k.2) (λ k passed. (and_parts _ _ passed).0)
    (λ r h. then_term (turned _ _ _ _ h.tab refl) (last_term (turned _ _ _ _ h.at refl)))
    old kept rows ((reads_as docids_text params old new store_schema kept.schema _ docids_means.is docids_means.plain docids_means.unlisted rows h).answer Null) most offset is refl

-- ---- whether there is one

some_mapped : {X Y : Type 0} (f : X → Y) (xs : List X) → is_some (slice_get (map f xs) 0) ≡ is_some (slice_get xs 0)
some_mapped f [] = refl
some_mapped f (x ∷ xs) = refl

some_taken : {X : Type 0} (xs : List X) → is_some (slice_get (take 1 xs) 0) ≡ is_some (slice_get xs 0)
some_taken [] = refl
some_taken (x ∷ xs) = refl

pub some_row : {X : Type 0} (xs : List X) → not (length xs == 0) ≡ is_some (slice_get xs 0)
some_row [] = refl
some_row (x ∷ xs) = grind (arith, nat_tests)

pub document_found : (tab docid : ℤ) (old new : State) (rows : List Row) → (IsTrue old.is_open → IsStore old.now) → Shown has_document_text (Int tab ∷ Int docid ∷ []) old new rows
    → is_some (slice_get rows 0) ≡ is_some (slice_get (where_key cell_key_cmp (λ k. int_eq tab k.0 && int_eq docid k.1) (value_of old.now.trees).cells) 0)
document_found tab docid old new rows if_open h =
    let kept = if_open (shown_open _ _ old new rows h) in
    let params = Int tab ∷ Int docid ∷ [] in
    let cells = where_key cell_key_cmp (λ k. int_eq tab k.0 && int_eq docid k.1) (value_of old.now.trees).cells in
    sym (some_mapped docid_of rows)
    ∙ ap (λ (ds : List ℤ). is_some (slice_get ds 0)) (docids_given has_document_query.filter has_document_query.limit has_document_query.offset params tab (λ k. int_eq tab k.0 && int_eq docid k.1) (λ k passed. (and_parts _ _ passed).0)
    (λ r h. then_term (turned _ _ _ _ h.tab refl) (last_term (turned _ _ _ _ h.docid refl)))
    old kept rows ((reads_as has_document_text params old new store_schema kept.schema _ has_document_means.is has_document_means.plain has_document_means.unlisted rows h).answer Null) (Some 1) 0 refl refl)
    ∙ some_taken (map docid_in cells) ∙ some_mapped docid_in cells
