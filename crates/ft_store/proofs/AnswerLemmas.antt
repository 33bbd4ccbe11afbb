-- What the queries of a store answer, and that they are refused only by what lies outside it.
use Rattle.std.proofs.Common.{◌≡◌, ◌≢◌, ℕ, ℤ, Bool, true, false, ◌&&◌, List, [], ◌∷◌, map, filter, refl, sym, ap, ap₂, subst, ◌∙◌, Ordering, Less, Equal, Greater, is_eq, IsTrue, true≢false, unwrap_or, nat_eq, int_cmp, int_eq, cond, ◌⊎◌, ◌++◌, ◌<◌, length, Option, Some, None, Ok, inl, inr, arith, append-nil, All, IsSome, IsUtf8, eqb-true, ltb-false, length-append}
use Rattle.ft_store.proofs.Common.{AllByRecursion, list_all, starts_with, tied_itself, ordering_then, IsTotalOrder, where_key, on_total, then_total, int_cmp_total}
use Rattle.ft_store.proofs.Common.{Value, Null, Int, Text, Blob, Row, column, value_cmp, bytes, without_case, by_key, ascending, Binary, NoCase}
use Rattle.ft_store.proofs.Common.{binary, is_true, Compare, Ge, Lt, Key, value_cmp_total, value_cmp-Int, value_cmp-Text, Trees, Term, holds, Output}
use Rattle.ft_store.proofs.Common.{output, output_cmp, IsAnswer, overlay, State, Shown, IsSound, reads_as, at_texts, same_bytes, then_key, last_key}
use Rattle.ft_store.proofs.Common.{then_term, last_term, map-map, filter-map, Cell, ListKey, cell_key_cmp, list_key_cmp, column_key_cmp, name_cmp}
use Rattle.ft_store.proofs.Common.{id_in, bare_list, lists_under_term, lists_of_prefix, and_parts, get_or_append_left, get_or_push}
use Rattle.ft_store.proofs.Common.{All-from_recursion, All-take, All-drop, All-map, All-weaker, recursion_from_All, All-permutation, Schema, Query}
use Rattle.ft_store.proofs.Common.{as_count, limited, page, inner, end, Select, Database, RefusesToRead, RefusesQuery, understood, reads_listing}
use Rattle.ft_store.proofs.Common.{IsSourceOf, IsNoStatement, IsNotRun, IsPlain, command_of, begins_as, Error, SqliteFailure, all_map, all-filter}
use Rattle.ft_store.proofs.Common.{all_weaker, all_both, all_unmap, IsPermutation-sort_by, everything, IsInt}
use Rattle.ft_values.specs.Cells as cells
use Rattle.sqlite.specs.declared.error.ErrorCode.TheVariants as code
use Rattle.ft_store.proofs.TypedLemmas as stored
use Rattle.sqlite_sql.specs.declared.ops.CompareOp.{CompareOp}
use Rattle.sqlite_typed.proofs.TestLemmas.{by_order}
use Rattle.ft_values.specs.declared.rows.Spot.{Spot}
use Rattle.ft_rows.specs.Packed.{unpacked}
use Rattle.ft_store.specs.Tables.{store_schema}
use Rattle.ft_store.specs.Rows.{keyed, table_entry, column_entry, skip_entry, cell_entry, list_entry, size_entry, note_entry, value_of, num_of, txt_of}
use Rattle.ft_store.specs.Found.{found_table, found_column, found_skip, found_cell, found_size, found_note, found_list, found_places, found_spots}
use Rattle.ft_store.specs.Calls.{IsStore}
use Rattle.ft_store.proofs.Texts.{names_text, columns_text, skips_text, cells_text, document_text, term_text, prefix_text, bare_prefix_text}
use Rattle.ft_store.proofs.Texts.{lists_text, sizes_text, noted_text, last_text, has_document_text, docids_text, query_by, rising, no_limit}
use Rattle.ft_store.proofs.Texts.{list_shown, bare_shown, rest_order, names_query, names_means, columns_query, columns_means, skips_query}
use Rattle.ft_store.proofs.Texts.{skips_means, cells_query, cells_means, document_query, document_means, term_query, term_means, prefix_query}
use Rattle.ft_store.proofs.Texts.{prefix_means, bare_prefix_query, bare_prefix_means, lists_query, lists_means, sizes_query, sizes_means, noted_query}
use Rattle.ft_store.proofs.Texts.{noted_means, table_query, last_query, last_means, has_document_query, has_document_means, docids_query}
use Rattle.ft_store.proofs.Texts.{docids_means}
use Rattle.ft_store.specs.Range.{after_last, limit_of}
use Rattle.ft_store.proofs.RangeLemmas.{in_range, is_under}
use Rattle.ft_store.proofs.ChangeLemmas.{all_selected, permuted, still_sorted, arranged}
use Rattle.ft_store.proofs.KeyedLemmas.{AreApart, whole_cmp, whole_total, whole_tie, apart-filter, sorted_by_key, keyed-where, sorted-keyed, at_value}
use Rattle.ft_store.proofs.KeyedLemmas.{equal_from, keyed-map}
use Rattle.ft_store.proofs.TypedLemmas.{tied_first, tied_second, tied_ints, tied_names, tied_cell_keys, cell_key_total, tied_list_keys}
use Rattle.ft_store.proofs.TypedLemmas.{list_key_total, tied_column_keys, column_key_total, name_total, IsNameRow, IsColumnRow, IsSkipRow, IsCellRow}
use Rattle.ft_store.proofs.TypedLemmas.{IsSizeRow, IsNoteRow, are_names, are_columns, are_skips, are_cells, are_lists, are_sizes, are_notes}
use Rattle.ft_store.proofs.StoreTables.{names_apart, columns_apart, skips_apart, cells_apart, lists_apart, sizes_apart, notes_apart, stored_entry}
use Rattle.ft_store.proofs.StoreTables.{turned, turned_text}
use Rattle.ft_store.proofs.BlameLemmas.{shown_open, fails_blamed, unless_shut}
use Rattle.sqlite_sql.specs.Term.{eval}
use Rattle.sqlite_sql.proofs.QueryLemmas.{no_fold_overflows}
pub use Rattle.ft_store.specs.Made.{is_whole, IsTypedIn}
use Rattle.ft_store.specs.Blame.{IsBlamed, IsUnasked, GivesUntaken, IsListRow, IsTermRow, AreTableTexts, AreNotedTexts}

pub cmp_ints : (v w : Value) (m n : ℤ) → v ≡ Int m → w ≡ Int n → value_cmp v w ≡ int_cmp m n
cmp_ints v w m n p q = ap₂ value_cmp p q ∙ value_cmp-Int m n

cmp_texts : (v w : Value) (s t : List ℕ) → v ≡ Text s → w ≡ Text t → value_cmp v w ≡ name_cmp s t
cmp_texts v w s t p q = ap₂ value_cmp p q ∙ value_cmp-Text s t

pub same_int : (a b : ℤ) → int_eq a b ≡ true → a ≡ b
same_int a b h = tied_ints a b (equal_from (int_cmp a b) h)

same_name : (s t : List ℕ) → is_eq (name_cmp s t) ≡ true → s ≡ t
same_name s t h = tied_names s t (equal_from (name_cmp s t) h)

-- where the first part of keys is given, they are ordered by what is left of them
pub within : (given a b : ℤ) {o p : Ordering} → int_eq given a ≡ true → int_eq given b ≡ true → o ≡ p → o ≡ ordering_then (int_cmp a b) p
within given a b {o} {p} h k same =
    same ∙ sym (ap (λ e. ordering_then e p) (ap₂ int_cmp (sym (same_int given a h)) (sym (same_int given b k)) ∙ tied_itself int_cmp_total given))

within_term : (term a b : List ℕ) {o p : Ordering} → is_eq (name_cmp term a) ≡ true → is_eq (name_cmp term b) ≡ true → o ≡ p → o ≡ ordering_then (name_cmp a b) p
within_term term a b {o} {p} h k same =
    same ∙ sym (ap (λ e. ordering_then e p) (ap₂ name_cmp (sym (same_name term a h)) (sym (same_name term b k)) ∙ tied_itself name_total term))

test_texts : (op : CompareOp) (v w : Value) (s t : List ℕ) → v ≡ Text s → w ≡ Text t → is_true (binary (Compare op Binary) v w) ≡ by_order name_cmp op s t
test_texts op v w s t p q = ap₂ (λ a b. is_true (binary (Compare op Binary) a b)) p q ∙ at_texts false op s t

-- all texts are below a blob
below_blob : (t : List ℕ) → is_true (binary (Compare Lt Binary) (Text t) (Blob [])) ≡ true
unfolding binary value_cmp
below_blob t = refl

-- the test of what ends a range
test_limit : (v : Value) (t from : List ℕ) → v ≡ Text t → is_true (binary (Compare Lt Binary) v (limit_of (after_last from))) ≡ is_under t from
test_limit v t [] p = ap (λ a. is_true (binary (Compare Lt Binary) a (Blob []))) p ∙ below_blob t
test_limit v t (b ∷ []) p = test_texts Lt v _ t _ p refl
test_limit v t (b ∷ c ∷ more) p = test_texts Lt v _ t _ p refl

-- names are compared without case first
cmp_cases : (v w : Value) (s t : List ℕ) → v ≡ Text s → w ≡ Text t → by_key (ascending NoCase) v w ≡ name_cmp (without_case s) (without_case t)
cmp_cases v w s t p q = ap₂ (by_key (ascending NoCase)) p q ∙ value_cmp-Text (without_case s) (without_case t)

pub alone : (x : Ordering) → x ≡ ordering_then x Equal
alone Less = refl
alone Equal = refl
alone Greater = refl

-- ---- values are compared

abbrev cell_cmp : Cell → Cell → Ordering
cell_cmp a b = ordering_then (value_cmp (num_of a) (num_of b)) (value_cmp (txt_of a) (txt_of b))

cell_total : IsTotalOrder cell_cmp
cell_total = then_total (on_total num_of value_cmp_total) (on_total txt_of value_cmp_total)

tied_values : (v w : Cell) → value_cmp (num_of v) (num_of w) ≡ Equal → value_cmp (txt_of v) (txt_of w) ≡ Equal → v ≡ w
unfolding value_cmp
tied_values cells.Null cells.Null n t = refl
tied_values cells.Null (cells.Int b) n t = absurd (true≢false (sym (ap is_eq n)))
tied_values cells.Null (cells.Text b) n t = absurd (true≢false (sym (ap is_eq t)))
tied_values (cells.Int a) cells.Null n t = absurd (true≢false (sym (ap is_eq n)))
tied_values (cells.Int a) (cells.Int b) n t = ap cells.Int (tied_ints a b (sym (value_cmp-Int a b) ∙ n))
tied_values (cells.Int a) (cells.Text b) n t = absurd (true≢false (sym (ap is_eq n)))
tied_values (cells.Text a) cells.Null n t = absurd (true≢false (sym (ap is_eq t)))
tied_values (cells.Text a) (cells.Int b) n t = absurd (true≢false (sym (ap is_eq n)))
tied_values (cells.Text a) (cells.Text b) n t = ap cells.Text (same_bytes a b (ap is_eq (sym (value_cmp-Text a b) ∙ t)))

tied_cells : (v w : Cell) → cell_cmp v w ≡ Equal → v ≡ w
tied_cells v w h = tied_values v w (tied_first _ _ h) (tied_second _ _ h)

abbrev pub all_tie : Unit {0} → Unit {0} → Ordering
all_tie a b = Equal

pub all_tie_total : IsTotalOrder all_tie
all_tie_total = on_total (λ (u : Unit {0}). Rattle.std.proofs.Common.pos 0) int_cmp_total

-- ---- a query on one table

module _ {K X : Type 0} (R : K → K → Ordering) (total : IsTotalOrder R) (tie : (x y : K) → R x y ≡ Equal → x ≡ y)
    (V : X → X → Ordering) (v_total : IsTotalOrder V) (v_tie : (x y : X) → V x y ≡ Equal → x ≡ y) (entry : Row → K × X) (P : Row → Type 0) where
  -- what is found, where the output of a row shows its entry
  found_outputs : (db : Trees) (tree : ℕ) → AllByRecursion P (db tree) → AreApart R (map entry (db tree)) → (terms : List Term) (show : List ℕ) (order : List (Term × Key)) (params : Row) (p : K → Bool) (back : Output → K × X)
      → ((r : Row) → P r → list_all (holds (params ∷ r ∷ [])) terms ≡ p (entry r).0)
      → ((r : Row) → P r → p (entry r).0 ≡ true → back (output (query_by tree terms show order no_limit) (params ∷ r ∷ [])) ≡ entry r)
      → ((a b : Row) → P a → P b → output_cmp (query_by tree terms show order no_limit) (output (query_by tree terms show order no_limit) (params ∷ a ∷ [])) (output (query_by tree terms show order no_limit) (params ∷ b ∷ [])) ≡ whole_cmp R total tie V (entry a) (entry b))
      → (rows : List Row) (answer : IsAnswer (query_by tree terms show order no_limit) db params rows) → map back answer.ordered ≡ where_key R p (keyed R (map entry (db tree)))
  found_outputs db tree typed apart terms show order params p back tests shows orders rows answer =
      all_selected (whole_cmp R total tie V) (whole_total R total tie V v_total v_tie) entry P db tree typed terms show order no_limit params (λ e. p e.0) back tests
      (λ r h passed. shows r h (sym (tests r h) ∙ passed)) (λ a b h k _ _. orders a b h k) (whole_tie R total tie V v_total v_tie) rows answer
      ∙ ap (filter (λ e. p e.0)) (sorted-keyed R total tie V (map entry (db tree)) apart)

  found : (db : Trees) (tree : ℕ) → AllByRecursion P (db tree) → AreApart R (map entry (db tree)) → (terms : List Term) (show : List ℕ) (order : List (Term × Key)) (params : Row) (p : K → Bool) (decode : Row → K × X)
      → ((r : Row) → P r → list_all (holds (params ∷ r ∷ [])) terms ≡ p (entry r).0)
      → ((r : Row) → P r → p (entry r).0 ≡ true → decode (output (query_by tree terms show order no_limit) (params ∷ r ∷ [])).1 ≡ entry r)
      → ((a b : Row) → P a → P b → output_cmp (query_by tree terms show order no_limit) (output (query_by tree terms show order no_limit) (params ∷ a ∷ [])) (output (query_by tree terms show order no_limit) (params ∷ b ∷ [])) ≡ whole_cmp R total tie V (entry a) (entry b))
      → (rows : List Row) → IsAnswer (query_by tree terms show order no_limit) db params rows → map decode rows ≡ where_key R p (keyed R (map entry (db tree)))
  found db tree typed apart terms show order params p decode tests shows orders rows answer =
      ap (map decode) answer.shown ∙ map-map decode (λ (o : Output). o.1) answer.ordered
      ∙ found_outputs db tree typed apart terms show order params p (λ o. decode o.1) tests shows orders rows answer

  -- The same, where rows that pass are ordered by their keys alone: no two have one.
  pub keyed_outputs : (db : Trees) (tree : ℕ) → AllByRecursion P (db tree) → AreApart R (map entry (db tree)) → (terms : List Term) (show : List ℕ) (order : List (Term × Key)) (params : Row) (p : K → Bool) (back : Output → K × X)
      → ((r : Row) → P r → list_all (holds (params ∷ r ∷ [])) terms ≡ p (entry r).0)
      → ((r : Row) → P r → p (entry r).0 ≡ true → back (output (query_by tree terms show order no_limit) (params ∷ r ∷ [])) ≡ entry r)
      → ((a b : Row) → P a → P b → p (entry a).0 ≡ true → p (entry b).0 ≡ true → output_cmp (query_by tree terms show order no_limit) (output (query_by tree terms show order no_limit) (params ∷ a ∷ [])) (output (query_by tree terms show order no_limit) (params ∷ b ∷ [])) ≡ R (entry a).0 (entry b).0)
      → (rows : List Row) (answer : IsAnswer (query_by tree terms show order no_limit) db params rows) → map back answer.ordered ≡ where_key R p (keyed R (map entry (db tree)))
  keyed_outputs db tree typed apart terms show order params p back tests shows orders rows answer =
      let by_key = λ (a b : K × X). R a.0 b.0 in
      let by_total : IsTotalOrder by_key = on_total (λ (e : K × X). e.0) total in
      let test = λ (e : K × X). p e.0 in
      let passes = λ (r : Row). list_all (holds (params ∷ r ∷ [])) terms ≡ true in
      let shown = λ (r : Row) (h : P r) (passed : passes r). shows r h (sym (tests r h) ∙ passed) in
      let order_of = λ (a b : Row) (h : P a) (k : P b) (e : passes a) (f : passes b). orders a b h k (sym (tests a h) ∙ e) (sym (tests b k) ∙ f) in
      sorted_by_key R total tie V v_total v_tie (filter test (map entry (db tree))) (map back answer.ordered) (apart-filter R total tie test (map entry (db tree)) apart)
      (permuted by_key by_total entry P db tree typed terms show order no_limit params test back tests shown order_of rows answer)
      (still_sorted by_key by_total entry P db tree typed terms show order no_limit params test back tests shown order_of rows answer)
      ∙ keyed-where R total tie p (map entry (db tree))

  keyed_found : (db : Trees) (tree : ℕ) → AllByRecursion P (db tree) → AreApart R (map entry (db tree)) → (terms : List Term) (show : List ℕ) (order : List (Term × Key)) (params : Row) (p : K → Bool) (decode : Row → K × X)
      → ((r : Row) → P r → list_all (holds (params ∷ r ∷ [])) terms ≡ p (entry r).0)
      → ((r : Row) → P r → p (entry r).0 ≡ true → decode (output (query_by tree terms show order no_limit) (params ∷ r ∷ [])).1 ≡ entry r)
      → ((a b : Row) → P a → P b → p (entry a).0 ≡ true → p (entry b).0 ≡ true → output_cmp (query_by tree terms show order no_limit) (output (query_by tree terms show order no_limit) (params ∷ a ∷ [])) (output (query_by tree terms show order no_limit) (params ∷ b ∷ [])) ≡ R (entry a).0 (entry b).0)
      → (rows : List Row) → IsAnswer (query_by tree terms show order no_limit) db params rows → map decode rows ≡ where_key R p (keyed R (map entry (db tree)))
  keyed_found db tree typed apart terms show order params p decode tests shows orders rows answer =
      ap (map decode) answer.shown ∙ map-map decode (λ (o : Output). o.1) answer.ordered
      ∙ keyed_outputs db tree typed apart terms show order params p (λ o. decode o.1) tests shows orders rows answer

pub sound_of : (s : State) → IsStore s.now → IsSound store_schema s.now.trees
sound_of s store = subst (λ c. IsSound c s.now.trees) store.schema store.sound

pub cells_shown : (tab : ℤ) (old new : State) (rows : List Row) → (IsTrue old.is_open → IsStore old.now) → Shown cells_text (Int tab ∷ []) old new rows
    → map (found_cell tab) rows ≡ where_key cell_key_cmp (λ k. int_eq tab k.0) (value_of old.now.trees).cells
cells_shown tab old new rows if_open h =
    let kept = if_open (shown_open _ _ old new rows h) in
    let sound = sound_of old kept in
    keyed_found cell_key_cmp cell_key_total tied_cell_keys cell_cmp cell_total tied_cells cell_entry IsCellRow (overlay old.now.trees []) 5 (are_cells old.now.trees sound) (cells_apart old.now.trees sound kept.numbered.1.1.1.0) cells_query.filter (2 ∷ 3 ∷ 4 ∷ 5 ∷ []) (rising rest_order) (Int tab ∷ []) (λ k. int_eq tab k.0) (found_cell tab)
    (λ r h. last_term (turned _ _ _ _ h.tab refl))
    (λ r h passed. ap (λ t. ((t, (cell_entry r).0.1, (cell_entry r).0.2), (cell_entry r).1)) (same_int tab (cell_entry r).0.0 passed))
    (λ a b p q h k. within tab _ _ h k (then_key (cmp_ints _ _ _ _ p.docid q.docid) (last_key (cmp_ints _ _ _ _ p.at q.at))))
    rows ((reads_as cells_text (Int tab ∷ []) old new store_schema kept.schema _ cells_means.is cells_means.plain cells_means.unlisted rows h).answer Null)

pub document_shown : (tab docid : ℤ) (old new : State) (rows : List Row) → (IsTrue old.is_open → IsStore old.now) → Shown document_text (Int tab ∷ Int docid ∷ []) old new rows
    → map (found_cell tab) rows ≡ where_key cell_key_cmp (λ k. int_eq tab k.0 && int_eq docid k.1) (value_of old.now.trees).cells
document_shown tab docid old new rows if_open h =
    let kept = if_open (shown_open _ _ old new rows h) in
    let sound = sound_of old kept in
    keyed_found cell_key_cmp cell_key_total tied_cell_keys cell_cmp cell_total tied_cells cell_entry IsCellRow (overlay old.now.trees []) 5 (are_cells old.now.trees sound) (cells_apart old.now.trees sound kept.numbered.1.1.1.0) document_query.filter (2 ∷ 3 ∷ 4 ∷ 5 ∷ []) (rising (3 ∷ [])) (Int tab ∷ Int docid ∷ []) (λ k. int_eq tab k.0 && int_eq docid k.1) (found_cell tab)
    (λ r h. then_term (turned _ _ _ _ h.tab refl) (last_term (turned _ _ _ _ h.docid refl)))
    (λ r h passed. ap (λ t. ((t, (cell_entry r).0.1, (cell_entry r).0.2), (cell_entry r).1)) (same_int tab (cell_entry r).0.0 (and_parts _ _ passed).0))
    (λ a b p q h k. within tab _ _ (and_parts _ _ h).0 (and_parts _ _ k).0 (within docid _ _ (and_parts _ _ h).1 (and_parts _ _ k).1 (last_key (cmp_ints _ _ _ _ p.at q.at))))
    rows ((reads_as document_text (Int tab ∷ Int docid ∷ []) old new store_schema kept.schema _ document_means.is document_means.plain document_means.unlisted rows h).answer Null)

pub sizes_shown : (tab : ℤ) (old new : State) (rows : List Row) → (IsTrue old.is_open → IsStore old.now) → Shown sizes_text (Int tab ∷ []) old new rows
    → map (found_size tab) rows ≡ where_key cell_key_cmp (λ k. int_eq tab k.0) (value_of old.now.trees).sizes
sizes_shown tab old new rows if_open h =
    let kept = if_open (shown_open _ _ old new rows h) in
    let sound = sound_of old kept in
    keyed_found cell_key_cmp cell_key_total tied_cell_keys int_cmp int_cmp_total tied_ints size_entry IsSizeRow (overlay old.now.trees []) 9 (are_sizes old.now.trees sound) (sizes_apart old.now.trees sound kept.numbered.1.1.1.1.1.0) sizes_query.filter (2 ∷ 3 ∷ 4 ∷ []) (rising rest_order) (Int tab ∷ []) (λ k. int_eq tab k.0) (found_size tab)
    (λ r h. last_term (turned _ _ _ _ h.tab refl))
    (λ r h passed. ap (λ t. ((t, (size_entry r).0.1, (size_entry r).0.2), (size_entry r).1)) (same_int tab (size_entry r).0.0 passed))
    (λ a b p q h k. within tab _ _ h k (then_key (cmp_ints _ _ _ _ p.docid q.docid) (last_key (cmp_ints _ _ _ _ p.at q.at))))
    rows ((reads_as sizes_text (Int tab ∷ []) old new store_schema kept.schema _ sizes_means.is sizes_means.plain sizes_means.unlisted rows h).answer Null)

pub columns_shown : (tab : ℤ) (old new : State) (rows : List Row) → (IsTrue old.is_open → IsStore old.now) → Shown columns_text (Int tab ∷ []) old new rows
    → map (found_column tab) rows ≡ where_key column_key_cmp (λ k. int_eq tab k.0) (value_of old.now.trees).columns
columns_shown tab old new rows if_open h =
    let kept = if_open (shown_open _ _ old new rows h) in
    let sound = sound_of old kept in
    keyed_found column_key_cmp column_key_total tied_column_keys name_cmp name_total tied_names column_entry IsColumnRow (overlay old.now.trees []) 3 (are_columns old.now.trees sound) (columns_apart old.now.trees sound kept.numbered.1.1.0) columns_query.filter (2 ∷ 3 ∷ []) (rising (2 ∷ [])) (Int tab ∷ []) (λ k. int_eq tab k.0) (found_column tab)
    (λ r h. last_term (turned _ _ _ _ h.tab refl))
    (λ r h passed. ap (λ t. ((t, (column_entry r).0.1), (column_entry r).1)) (same_int tab (column_entry r).0.0 passed))
    (λ a b p q h k. within tab _ _ h k (last_key (cmp_ints _ _ _ _ p.at q.at)))
    rows ((reads_as columns_text (Int tab ∷ []) old new store_schema kept.schema _ columns_means.is columns_means.plain columns_means.unlisted rows h).answer Null)

pub skips_shown : (tab : ℤ) (old new : State) (rows : List Row) → (IsTrue old.is_open → IsStore old.now) → Shown skips_text (Int tab ∷ []) old new rows
    → map (found_skip tab) rows ≡ where_key column_key_cmp (λ k. int_eq tab k.0) (value_of old.now.trees).skipped
skips_shown tab old new rows if_open h =
    let kept = if_open (shown_open _ _ old new rows h) in
    let sound = sound_of old kept in
    keyed_found column_key_cmp column_key_total tied_column_keys all_tie all_tie_total (λ x y h. refl) skip_entry IsSkipRow (overlay old.now.trees []) 13 (are_skips old.now.trees sound) (skips_apart old.now.trees sound kept.numbered.1.1.1.1.1.1.1.0) skips_query.filter (2 ∷ []) (rising (2 ∷ [])) (Int tab ∷ []) (λ k. int_eq tab k.0) (found_skip tab)
    (λ r h. last_term (turned _ _ _ _ h.tab refl))
    (λ r h passed. ap (λ t. ((t, (skip_entry r).0.1), tt)) (same_int tab (skip_entry r).0.0 passed))
    (λ a b p q h k. within tab _ _ h k (last_key (cmp_ints _ _ _ _ p.at q.at)))
    rows ((reads_as skips_text (Int tab ∷ []) old new store_schema kept.schema _ skips_means.is skips_means.plain skips_means.unlisted rows h).answer Null)

pub names_shown : (old new : State) (rows : List Row) → (IsTrue old.is_open → IsStore old.now) → Shown names_text ([]) old new rows
    → map found_table rows ≡ where_key int_cmp (λ k. true) (value_of old.now.trees).tables
names_shown old new rows if_open h =
    let kept = if_open (shown_open _ _ old new rows h) in
    let sound = sound_of old kept in
    found int_cmp int_cmp_total tied_ints name_cmp name_total tied_names table_entry IsNameRow (overlay old.now.trees []) 1 (are_names old.now.trees sound kept.numbered.1.0) (names_apart old.now.trees kept.numbered.1.0) names_query.filter (0 ∷ 2 ∷ []) (rising (0 ∷ 2 ∷ [])) ([]) (λ k. true) found_table
    (λ r h. refl)
    (λ r h passed. refl)
    (λ a b p q. then_key (cmp_ints _ _ _ _ p.id q.id) (last_key (cmp_texts _ _ _ _ p.name q.name)))
    rows ((reads_as names_text ([]) old new store_schema kept.schema _ names_means.is names_means.plain names_means.unlisted rows h).answer Null)

pub noted_shown : (old new : State) (rows : List Row) → (IsTrue old.is_open → IsStore old.now) → Shown noted_text ([]) old new rows
    → map found_note rows ≡ where_key name_cmp (λ k. true) (value_of old.now.trees).noted
noted_shown old new rows if_open h =
    let kept = if_open (shown_open _ _ old new rows h) in
    let sound = sound_of old kept in
    found name_cmp name_total tied_names name_cmp name_total tied_names note_entry IsNoteRow (overlay old.now.trees []) 11 (are_notes old.now.trees sound) (notes_apart old.now.trees sound kept.numbered.1.1.1.1.1.1.0) noted_query.filter (1 ∷ []) noted_query.order ([]) (λ k. true) found_note
    (λ r h. refl)
    (λ r h passed. refl)
    (λ a b p q. then_key (cmp_cases _ _ _ _ p.name q.name) (last_key (cmp_texts _ _ _ _ p.name q.name)))
    rows ((reads_as noted_text ([]) old new store_schema kept.schema _ noted_means.is noted_means.plain noted_means.unlisted rows h).answer Null)

pub prefix_stored_shown : (tab : ℤ) (from : List ℕ) (old new : State) (rows : List Row) → (IsTrue old.is_open → IsStore old.now) → Shown prefix_text (Int tab ∷ Text from ∷ limit_of (after_last from) ∷ []) old new rows
    → map (found_list tab) rows ≡ where_key list_key_cmp (λ k. int_eq tab k.0 && starts_with nat_eq k.1 from) (keyed list_key_cmp (map stored_entry (old.now.trees 7)))
prefix_stored_shown tab from old new rows if_open h =
    let kept = if_open (shown_open _ _ old new rows h) in
    let sound = sound_of old kept in
    let params = Int tab ∷ Text from ∷ limit_of (after_last from) ∷ [] in
    keyed_found list_key_cmp list_key_total tied_list_keys name_cmp name_total tied_names stored_entry stored.IsListRow (overlay old.now.trees []) 7 (are_lists old.now.trees sound) (lists_apart old.now.trees sound kept.numbered.1.1.1.1.0) prefix_query.filter list_shown (rising rest_order) params (λ k. int_eq tab k.0 && starts_with nat_eq k.1 from) (found_list tab)
    (λ r h. then_term (turned _ _ _ _ h.tab refl) (then_term (test_texts Ge _ _ _ _ h.term refl) (last_term (test_limit _ _ from h.term))) ∙ ap (λ t. int_eq tab (stored_entry r).0.0 && t) (in_range from (stored_entry r).0.1))
    (λ r h passed. ap (λ t. ((t, (stored_entry r).0.1, (stored_entry r).0.2), (stored_entry r).1)) (same_int tab (stored_entry r).0.0 (and_parts _ _ passed).0))
    (λ a b p q h k. within tab _ _ (and_parts _ _ h).0 (and_parts _ _ k).0 (then_key (cmp_texts _ _ _ _ p.term q.term) (last_key (cmp_ints _ _ _ _ p.docid q.docid))))
    rows ((reads_as prefix_text params old new store_schema kept.schema _ prefix_means.is prefix_means.plain prefix_means.unlisted rows h).answer Null)

pub lists_stored_shown : (tab : ℤ) (old new : State) (rows : List Row) → (IsTrue old.is_open → IsStore old.now) → Shown lists_text (Int tab ∷ []) old new rows
    → map (found_list tab) rows ≡ where_key list_key_cmp (λ k. int_eq tab k.0) (keyed list_key_cmp (map stored_entry (old.now.trees 7)))
lists_stored_shown tab old new rows if_open h =
    let kept = if_open (shown_open _ _ old new rows h) in
    let sound = sound_of old kept in
    keyed_found list_key_cmp list_key_total tied_list_keys name_cmp name_total tied_names stored_entry stored.IsListRow (overlay old.now.trees []) 7 (are_lists old.now.trees sound) (lists_apart old.now.trees sound kept.numbered.1.1.1.1.0) lists_query.filter list_shown (rising rest_order) (Int tab ∷ []) (λ k. int_eq tab k.0) (found_list tab)
    (λ r h. last_term (turned _ _ _ _ h.tab refl))
    (λ r h passed. ap (λ t. ((t, (stored_entry r).0.1, (stored_entry r).0.2), (stored_entry r).1)) (same_int tab (stored_entry r).0.0 passed))
    (λ a b p q h k. within tab _ _ h k (then_key (cmp_texts _ _ _ _ p.term q.term) (last_key (cmp_ints _ _ _ _ p.docid q.docid))))
    rows ((reads_as lists_text (Int tab ∷ []) old new store_schema kept.schema _ lists_means.is lists_means.plain lists_means.unlisted rows h).answer Null)

-- ---- lists, with their places

abbrev spots_of : List ℕ → List Spot
spots_of b = unwrap_or (unpacked b) []

lists_are : (db : Trees) → keyed list_key_cmp (map list_entry (db 7)) ≡ map (at_value list_key_cmp spots_of) (keyed list_key_cmp (map stored_entry (db 7)))
lists_are db = ap (keyed list_key_cmp) (sym (map-map (at_value list_key_cmp spots_of) stored_entry (db 7))) ∙ keyed-map list_key_cmp spots_of (map stored_entry (db 7))

pub with_places : (db : Trees) (p : ListKey → Bool) (stored : List (ListKey × List ℕ)) → stored ≡ where_key list_key_cmp p (keyed list_key_cmp (map stored_entry (db 7)))
    → map (at_value list_key_cmp spots_of) stored ≡ where_key list_key_cmp p (value_of db).lists
with_places db p stored is =
    ap (map (at_value list_key_cmp spots_of)) is ∙ sym (filter-map (λ (e : ListKey × List Spot). p e.0) (at_value list_key_cmp spots_of) (keyed list_key_cmp (map stored_entry (db 7))))
    ∙ ap (where_key list_key_cmp p) (sym (lists_are db))

-- every row passes
pub all_kept : {K X : Type 0} (R : K → K → Ordering) (es : List (K × X)) → where_key R (λ _. true) es ≡ es
all_kept R [] = refl
all_kept R (e ∷ es) = ap (λ l. e ∷ l) (all_kept R es)

-- the lists that a query finds, with their places
pub placed : (db : Trees) (tab : ℤ) (p : ListKey → Bool) (rows : List Row) → map (found_list tab) rows ≡ where_key list_key_cmp p (keyed list_key_cmp (map stored_entry (db 7)))
    → map (found_places tab) rows ≡ where_key list_key_cmp p (value_of db).lists
placed db tab p rows is = sym (map-map (at_value list_key_cmp spots_of) (found_list tab) rows) ∙ with_places db p (map (found_list tab) rows) is

-- ---- lists without their terms, which are given or what the rows are sorted by

abbrev with_term : ℤ → (Output → List ℕ) → Output → ListKey × List ℕ
with_term tab term_of o = ((tab, term_of o, id_in (column o.1 0)), bytes (column o.1 1))

bare_found : (tab : ℤ) (old : State) (kept : IsStore old.now) (terms : List Term) (order : List ℕ) (params : Row) (p : ListKey → Bool) (term_of : Output → List ℕ)
    → ((r : Row) → stored.IsListRow r → list_all (holds (params ∷ r ∷ [])) terms ≡ p (stored_entry r).0) → ((k : ListKey) → p k ≡ true → int_eq tab k.0 ≡ true)
    → ((r : Row) → p (stored_entry r).0 ≡ true → term_of (output (query_by 7 terms bare_shown (rising order) no_limit) (params ∷ r ∷ [])) ≡ (stored_entry r).0.1)
    → ((a b : Row) → stored.IsListRow a → stored.IsListRow b → p (stored_entry a).0 ≡ true → p (stored_entry b).0 ≡ true → output_cmp (query_by 7 terms bare_shown (rising order) no_limit) (output (query_by 7 terms bare_shown (rising order) no_limit) (params ∷ a ∷ [])) (output (query_by 7 terms bare_shown (rising order) no_limit) (params ∷ b ∷ [])) ≡ list_key_cmp (stored_entry a).0 (stored_entry b).0)
    → (rows : List Row) → IsAnswer (query_by 7 terms bare_shown (rising order) no_limit) (overlay old.now.trees []) params rows
    → map found_spots rows ≡ map bare_list (where_key list_key_cmp p (value_of old.now.trees).lists)
bare_found tab old kept terms order params p term_of tests in_table named orders rows answer =
    let sound = sound_of old kept in
    let back = with_term tab term_of in
    let outputs = keyed_outputs list_key_cmp list_key_total tied_list_keys name_cmp name_total tied_names stored_entry stored.IsListRow (overlay old.now.trees []) 7 (are_lists old.now.trees sound) (lists_apart old.now.trees sound kept.numbered.1.1.1.1.0) terms bare_shown (rising order) params p back tests
    (λ r h passed. λ i. ((same_int tab (stored_entry r).0.0 (in_table (stored_entry r).0 passed) i, named r passed i, (stored_entry r).0.2), (stored_entry r).1))
    orders rows answer in
    ap (map found_spots) answer.shown ∙ map-map found_spots (λ (o : Output). o.1) answer.ordered
    ∙ sym (map-map (λ (e : ListKey × List ℕ). bare_list (at_value list_key_cmp spots_of e)) back answer.ordered)
    ∙ sym (map-map bare_list (at_value list_key_cmp spots_of) (map back answer.ordered))
    ∙ ap (map bare_list) (with_places old.now.trees p (map back answer.ordered) outputs)

pub term_shown : (tab : ℤ) (term : List ℕ) (old new : State) (rows : List Row) → (IsTrue old.is_open → IsStore old.now) → Shown term_text (Int tab ∷ Text term ∷ []) old new rows
    → map found_spots rows ≡ map bare_list (lists_under_term tab term (value_of old.now.trees))
term_shown tab term old new rows if_open h =
    let kept = if_open (shown_open _ _ old new rows h) in
    bare_found tab old kept term_query.filter (3 ∷ []) (Int tab ∷ Text term ∷ []) (λ k. int_eq tab k.0 && is_eq (name_cmp term k.1)) (λ _. term)
    (λ r h. then_term (turned _ _ _ _ h.tab refl) (last_term (turned_text _ _ _ _ h.term refl)))
    (λ k passed. (and_parts _ _ passed).0)
    (λ r passed. same_name term _ (and_parts _ _ passed).1)
    (λ a b p q h k. within tab _ _ (and_parts _ _ h).0 (and_parts _ _ k).0 (within_term term _ _ (and_parts _ _ h).1 (and_parts _ _ k).1 (last_key (cmp_ints _ _ _ _ p.docid q.docid))))
    rows ((reads_as term_text (Int tab ∷ Text term ∷ []) old new store_schema kept.schema _ term_means.is term_means.plain term_means.unlisted rows h).answer Null)

pub bare_prefix_shown : (tab : ℤ) (from : List ℕ) (old new : State) (rows : List Row) → (IsTrue old.is_open → IsStore old.now) → Shown bare_prefix_text (Int tab ∷ Text from ∷ limit_of (after_last from) ∷ []) old new rows
    → map found_spots rows ≡ map bare_list (lists_of_prefix tab from (value_of old.now.trees))
bare_prefix_shown tab from old new rows if_open h =
    let kept = if_open (shown_open _ _ old new rows h) in
    let params = Int tab ∷ Text from ∷ limit_of (after_last from) ∷ [] in
    bare_found tab old kept bare_prefix_query.filter rest_order params (λ k. int_eq tab k.0 && starts_with nat_eq k.1 from) (λ o. bytes (column o.0 0))
    (λ r h. then_term (turned _ _ _ _ h.tab refl) (then_term (test_texts Ge _ _ _ _ h.term refl) (last_term (test_limit _ _ from h.term))) ∙ ap (λ t. int_eq tab (stored_entry r).0.0 && t) (in_range from (stored_entry r).0.1))
    (λ k passed. (and_parts _ _ passed).0)
    (λ r passed. refl)
    (λ a b p q h k. within tab _ _ (and_parts _ _ h).0 (and_parts _ _ k).0 (then_key (cmp_texts _ _ _ _ p.term q.term) (last_key (cmp_ints _ _ _ _ p.docid q.docid))))
    rows ((reads_as bare_prefix_text params old new store_schema kept.schema _ bare_prefix_means.is bare_prefix_means.plain bare_prefix_means.unlisted rows h).answer Null)

-- ---- why a query is refused

-- the text is a statement of a store
pub is_statement : {schema : Schema} (old : State) (sql : List ℕ) (params : Row) → old.now.schema ≡ schema → IsPlain (understood schema sql) → is_whole sql (length params) (understood schema sql) ≡ true
    → (e : Error) → ¬ IsNoStatement old sql params e
is_statement old sql params has plain whole e (inl none) = subst IsPlain (sym (ap (λ s. understood s sql) has) ∙ none.1) plain
is_statement old sql params has plain whole e (inr (c, known, why)) =
    let here = sym (ap (λ s. understood s sql) has) ∙ known in
    let tells = subst (λ r. is_whole sql (length params) r ≡ true) here whole in
    elim why [
      | inl tail ↦ let long = ltb-false c.tail (length sql) (stored.not_null _ (and_parts _ _ tells).0) in tail.0 (omega (arith, long))
      | inr (inl given) ↦ given.0 (eqb-true _ _ (and_parts _ _ tells).1)
      | inr (inr clock) ↦ clock.0 (subst IsPlain here plain).1
    ]

-- the same of a store
abbrev pub IsTyped : Query → Row → Type 0
IsTyped q params = IsTypedIn store_schema q params

-- such a query on one table is refused only by a limit on steps
pub table_limited : {schema : Schema} (tree : ℕ) (terms : List Term) (show : List ℕ) (order : List (Term × Key)) (limit offset : Term) (params : Row) → IsTypedIn schema (record (query_by tree terms show order limit) { offset = offset }) params
    → (most : Option ℕ) (db : Database) (e : Error) → db.schema ≡ schema → RefusesQuery most db (record { lets = []; body = record (query_by tree terms show order limit) { offset = offset } }) params e → IsSome most
table_limited tree terms show order limit offset params typed most db e has (inl bad) = absurd (typed db has bad.1)
table_limited tree terms show order limit offset params typed most db e has (inr (inl over)) =
    absurd (elim over.1 [ inl grouped ↦ grouped | inr folded ↦ no_fold_overflows (overlay db.trees []) (inner tree end) (params ∷ []) refl folded ])
table_limited tree terms show order limit offset params typed most db e has (inr (inr limited)) = limited.1

module _ (db : Trees) (tree : ℕ) (P : Row → Type 0) (each : AllByRecursion P (db tree)) (terms : List Term) (show : List ℕ) (order : List (Term × Key)) (limit offset : Term) (params : Row) where
  abbrev IsShownBy : Row → Type 0
  IsShownBy row = (r : Row) × P r × (row ≡ (output (query_by tree terms show order limit) (params ∷ r ∷ [])).1)

  abbrev IsOut : Output → Type 0
  IsOut o = (r : Row) × P r × (o ≡ output (query_by tree terms show order limit) (params ∷ r ∷ []))

  outs : (rows : List Row) (answer : IsAnswer (query_by tree terms show order limit) db params rows) → All IsOut answer.ordered
  outs rows answer =
      All-permutation IsOut _ _ (arranged db tree terms show order limit params rows answer)
      (All-from_recursion IsOut _ (all_map IsOut (λ r. output (query_by tree terms show order limit) (params ∷ r ∷ [])) _ (all_weaker P _ (λ r h. (r, h, refl)) _ (all-filter P (λ r. list_all (holds (params ∷ r ∷ [])) terms) (db tree) each))))

  limited_all : {X : Type 0} (Q : X → Type 0) (n : Option ℕ) (xs : List X) → All Q xs → All Q (limited n xs)
  limited_all Q None xs all = all
  limited_all Q (Some n) xs all = All-take Q n xs all

  unpaged : (rows : List Row) (answer : IsAnswer (record (query_by tree terms show order limit) { offset = offset }) db params rows)
      → IsAnswer (query_by tree terms show order limit) db params (page (query_by tree terms show order limit) params (map (λ (o : Output). o.1) answer.ordered))
  unpaged rows answer = record { staged = answer.staged; grouped = answer.grouped; kept = answer.kept; distinct = answer.distinct; ordered = answer.ordered; same = answer.same; sorted = answer.sorted; shown = refl }

  -- each row of an answer shows a row of the table
  pub all_shown : (rows : List Row) → IsAnswer (record (query_by tree terms show order limit) { offset = offset }) db params rows → All IsShownBy rows
  unfolding unpaged
  all_shown rows answer =
      subst (All IsShownBy) (sym answer.shown)
      (limited_all IsShownBy (as_count (eval limit (params ∷ []))) _ (All-drop IsShownBy (unwrap_or (as_count (eval offset (params ∷ []))) 0) _ (All-map IsShownBy (λ (o : Output). o.1) answer.ordered
      (All-weaker IsOut (λ o. IsShownBy o.1) (λ o h. (h.0, h.1, ap (λ (u : Output). u.1) h.2)) answer.ordered (outs _ (unpaged rows answer))))))

-- where each row that is shown can be taken, each that is given is
pub taken : {schema : Schema} (old : State) (sql : List ℕ) (params : Row) (names : List (List ℕ)) (tree : ℕ) (terms : List Term) (show : List ℕ) (order : List (Term × Key)) (limit offset : Term)
    → old.now.schema ≡ schema → command_of (understood schema sql) ≡ Select (record { lets = []; body = record (query_by tree terms show order limit) { offset = offset } }) names → IsPlain (understood schema sql)
    → reads_listing schema sql ≡ false → (P : Row → Type 0) → AllByRecursion P (overlay old.now.trees [] tree) → (Takes : Row → Type 0)
    → ((r : Row) → P r → Takes (output (query_by tree terms show order limit) (params ∷ r ∷ [])).1) → ¬ GivesUntaken old sql params Takes
taken old sql params names tree terms show order limit offset has is plain unlisted P each Takes takes (rows, row, begins, untaken) =
    let first = begins_as sql params old old old.now.schema refl _ (ap (λ s. command_of (understood s sql)) has ∙ is) (subst (λ s. IsPlain (understood s sql)) (sym has) plain) (ap (λ s. reads_listing s sql) has ∙ unlisted) (rows ++ row ∷ []) begins in
    let sure = first.1 in
    let all = all_shown (overlay old.now.trees []) tree P each terms show order limit offset params ((rows ++ row ∷ []) ++ sure.0) (sure.1 Null) in
    let long = length-append (rows ++ row ∷ []) sure.0 in
    let short = length-append rows (row ∷ []) in
    let here = subst (λ (r : Row). (s : Row) × P s × (r ≡ (output (query_by tree terms show order limit) (params ∷ s ∷ [])).1)) (get_or_append_left (rows ++ row ∷ []) sure.0 row (length rows) (omega (arith, short)) ∙ get_or_push rows row row (length rows) refl) (all (length rows) row (omega (arith, long, short))) in
    untaken (subst Takes (sym here.2) (takes here.0 here.1))

-- a query on an open store, whose rows are taken so, is refused only by what lies outside it
abbrev pub OnlyBlamed : State → State → List ℕ → Row → (Row → Type 0) → Type 0
OnlyBlamed old new sql params Takes = (IsTrue old.is_open → IsStore old.now) → IsBlamed old new ⊎ (IsUnasked old sql params ⊎ GivesUntaken old sql params Takes) → IsBlamed old new

-- why a query on one table is refused: by what lies outside the database, or since a row of the table can't be taken
module _ {schema : Schema} (old new : State) (has : IsTrue old.is_open → old.now.schema ≡ schema) (sql : List ℕ) (params : Row) (names : List (List ℕ)) (tree : ℕ) (terms : List Term) (show : List ℕ) (order : List (Term × Key)) (limit offset : Term)
    (is : command_of (understood schema sql) ≡ Select (record { lets = []; body = record (query_by tree terms show order limit) { offset = offset } }) names) (plain : IsPlain (understood schema sql)) (unlisted : reads_listing schema sql ≡ false)
    (whole : is_whole sql (length params) (understood schema sql) ≡ true) (typed : IsTypedIn schema (record (query_by tree terms show order limit) { offset = offset }) params)
    (P : Row → Type 0) (Takes : Row → Type 0) (takes : (r : Row) → P r → Takes (output (query_by tree terms show order limit) (params ∷ r ∷ [])).1) where
  asked : old.now.schema ≡ schema → IsUnasked old sql params → IsSome old.step_limit
  asked has (e, inl none) = absurd (is_statement old sql params has plain whole e none)
  asked has (e, inr (c, it, db, source, refuses)) =
      let here : understood schema sql ≡ Ok c = sym (ap (λ s. understood s sql) has) ∙ it.is in
      let bare = subst IsPlain here plain in
      let command = sym (ap command_of here) ∙ is in
      let same : db ≡ old.now = subst (λ b. IsSourceOf b old.now db) (ap (λ s. reads_listing s sql) has ∙ unlisted) source in
      table_limited tree terms show order limit offset params typed old.step_limit db e (ap (λ (d : Database). d.schema) same ∙ has) (subst (λ k. RefusesToRead old.step_limit k db params e) command (rw (bare.1, append-nil params) at refuses))

  pub query_refused : IsBlamed old new ⊎ (IsUnasked old sql params ⊎ GivesUntaken old sql params Takes) → IsBlamed old new ⊎ (IsTrue old.is_open × ¬ AllByRecursion P (overlay old.now.trees [] tree))
  query_refused why = unless_shut old new inl (λ is_open. elim why [
    | inl blamed ↦ inl blamed
    | inr (inl unasked) ↦ inl (inr (inr (asked (has is_open) unasked)))
    | inr (inr untaken) ↦ inr (is_open, λ each. taken old sql params names tree terms show order limit offset (has is_open) is plain unlisted P each Takes takes untaken)
  ])

-- why a query on one table of an open store is refused: by what lies outside it
module _ (old new : State) (store : IsTrue old.is_open → IsStore old.now) (sql : List ℕ) (params : Row) (names : List (List ℕ)) (tree : ℕ) (terms : List Term) (show : List ℕ) (order : List (Term × Key)) (limit offset : Term)
    (is : command_of (understood store_schema sql) ≡ Select (record { lets = []; body = record (query_by tree terms show order limit) { offset = offset } }) names) (plain : IsPlain (understood store_schema sql)) (unlisted : reads_listing store_schema sql ≡ false)
    (whole : is_whole sql (length params) (understood store_schema sql) ≡ true) (typed : IsTyped (record (query_by tree terms show order limit) { offset = offset }) params)
    (P : Row → Type 0) (each : IsStore old.now → AllByRecursion P (overlay old.now.trees [] tree)) (Takes : Row → Type 0)
    (takes : (r : Row) → P r → Takes (output (query_by tree terms show order limit) (params ∷ r ∷ [])).1) where
  pub query_only : IsBlamed old new ⊎ (IsUnasked old sql params ⊎ GivesUntaken old sql params Takes) → IsBlamed old new
  query_only why =
      elim (query_refused old new (λ is_open. (store is_open).schema) sql params names tree terms show order limit offset is plain unlisted whole typed P Takes takes why)
      [ inl blamed ↦ blamed | inr untaken ↦ absurd (untaken.1 (each (store untaken.0))) ]

-- ---- the queries

pub last_blamed : (tab : ℤ) (old new : State) → OnlyBlamed old new last_text (Int tab ∷ []) (λ row. (0 < length row) × IsInt (column row 0))
last_blamed tab old new store =
    query_only old new store last_text (Int tab ∷ []) _ 5 last_query.filter (2 ∷ 3 ∷ []) last_query.order last_query.limit last_query.offset last_means.is last_means.plain last_means.unlisted last_means.whole (λ db has no. true≢false (rw has at no))
    IsCellRow (λ kept. are_cells old.now.trees (sound_of old kept)) _ (λ r typed. (omega arith, (id_in (column r 2), typed.docid)))

pub has_document_blamed : (tab : ℤ) (docid : ℤ) (old new : State) → OnlyBlamed old new has_document_text (Int tab ∷ Int docid ∷ []) (λ row. (0 < length row) × IsInt (column row 0))
has_document_blamed tab docid old new store =
    query_only old new store has_document_text (Int tab ∷ Int docid ∷ []) _ 5 has_document_query.filter (2 ∷ []) has_document_query.order has_document_query.limit has_document_query.offset has_document_means.is has_document_means.plain has_document_means.unlisted has_document_means.whole (λ db has no. true≢false (rw has at no))
    IsCellRow (λ kept. are_cells old.now.trees (sound_of old kept)) _ (λ r typed. (omega arith, (id_in (column r 2), typed.docid)))

pub docids_blamed : (tab : ℤ) (most : ℤ) (offset : ℤ) (old new : State) → OnlyBlamed old new docids_text (Int tab ∷ Int most ∷ Int offset ∷ []) (λ row. (0 < length row) × IsInt (column row 0))
docids_blamed tab most offset old new store =
    query_only old new store docids_text (Int tab ∷ Int most ∷ Int offset ∷ []) _ 5 docids_query.filter (2 ∷ []) docids_query.order docids_query.limit docids_query.offset docids_means.is docids_means.plain docids_means.unlisted docids_means.whole (λ db has no. true≢false (rw has at no))
    IsCellRow (λ kept. are_cells old.now.trees (sound_of old kept)) _ (λ r typed. (omega arith, (id_in (column r 2), typed.docid)))

pub cells_blamed : (tab : ℤ) (old new : State) → OnlyBlamed old new cells_text (Int tab ∷ []) (λ row. (3 < length row) × IsInt (column row 0) × IsInt (column row 1))
cells_blamed tab old new store =
    query_only old new store cells_text (Int tab ∷ []) _ 5 cells_query.filter (2 ∷ 3 ∷ 4 ∷ 5 ∷ []) cells_query.order cells_query.limit cells_query.offset cells_means.is cells_means.plain cells_means.unlisted cells_means.whole (λ db has no. true≢false (rw has at no))
    IsCellRow (λ kept. are_cells old.now.trees (sound_of old kept)) _ (λ r typed. (omega arith, (id_in (column r 2), typed.docid), (id_in (column r 3), typed.at)))

pub document_blamed : (tab : ℤ) (docid : ℤ) (old new : State) → OnlyBlamed old new document_text (Int tab ∷ Int docid ∷ []) (λ row. (3 < length row) × IsInt (column row 0) × IsInt (column row 1))
document_blamed tab docid old new store =
    query_only old new store document_text (Int tab ∷ Int docid ∷ []) _ 5 document_query.filter (2 ∷ 3 ∷ 4 ∷ 5 ∷ []) document_query.order document_query.limit document_query.offset document_means.is document_means.plain document_means.unlisted document_means.whole (λ db has no. true≢false (rw has at no))
    IsCellRow (λ kept. are_cells old.now.trees (sound_of old kept)) _ (λ r typed. (omega arith, (id_in (column r 2), typed.docid), (id_in (column r 3), typed.at)))

pub sizes_blamed : (tab : ℤ) (old new : State) → OnlyBlamed old new sizes_text (Int tab ∷ []) (λ row. (2 < length row) × IsInt (column row 0) × IsInt (column row 1) × IsInt (column row 2))
sizes_blamed tab old new store =
    query_only old new store sizes_text (Int tab ∷ []) _ 9 sizes_query.filter (2 ∷ 3 ∷ 4 ∷ []) sizes_query.order sizes_query.limit sizes_query.offset sizes_means.is sizes_means.plain sizes_means.unlisted sizes_means.whole (λ db has no. true≢false (rw has at no))
    IsSizeRow (λ kept. are_sizes old.now.trees (sound_of old kept)) _ (λ r typed. (omega arith, (id_in (column r 2), typed.docid), (id_in (column r 3), typed.at), (id_in (column r 4), typed.n)))

-- what a range ends at is a text or a blob
range_typed : (bare : Bool) (tab : ℤ) (begin ends : List ℕ) → IsTyped (table_query 7 prefix_query.filter (cond bare bare_shown list_shown) rest_order) (Int tab ∷ Text begin ∷ limit_of ends ∷ [])
range_typed true tab begin [] db has untyped = true≢false (rw has at untyped)
range_typed true tab begin (b ∷ ends) db has untyped = true≢false (rw has at untyped)
range_typed false tab begin [] db has untyped = true≢false (rw has at untyped)
range_typed false tab begin (b ∷ ends) db has untyped = true≢false (rw has at untyped)

pub term_blamed : (tab : ℤ) (term : List ℕ) (old new : State) → OnlyBlamed old new term_text (Int tab ∷ Text term ∷ []) IsListRow
term_blamed tab term old new store =
    query_only old new store term_text (Int tab ∷ Text term ∷ []) _ 7 term_query.filter bare_shown term_query.order term_query.limit term_query.offset term_means.is term_means.plain term_means.unlisted term_means.whole (λ db has no. true≢false (rw has at no))
    stored.IsListRow (λ kept. are_lists old.now.trees (sound_of old kept)) _ (λ r typed. (omega arith, (id_in (column r 3), typed.docid), (bytes (column r 4), typed.list)))

pub bare_prefix_blamed : (tab : ℤ) (begin : List ℕ) (ends : List ℕ) (old new : State) → OnlyBlamed old new bare_prefix_text (Int tab ∷ Text begin ∷ limit_of ends ∷ []) IsListRow
bare_prefix_blamed tab begin ends old new store =
    query_only old new store bare_prefix_text (Int tab ∷ Text begin ∷ limit_of ends ∷ []) _ 7 bare_prefix_query.filter bare_shown bare_prefix_query.order bare_prefix_query.limit bare_prefix_query.offset bare_prefix_means.is bare_prefix_means.plain bare_prefix_means.unlisted bare_prefix_means.whole (range_typed true tab begin ends)
    stored.IsListRow (λ kept. are_lists old.now.trees (sound_of old kept)) _ (λ r typed. (omega arith, (id_in (column r 3), typed.docid), (bytes (column r 4), typed.list)))

pub prefix_blamed : (tab : ℤ) (begin : List ℕ) (ends : List ℕ) (old new : State) → OnlyBlamed old new prefix_text (Int tab ∷ Text begin ∷ limit_of ends ∷ []) IsTermRow
prefix_blamed tab begin ends old new store =
    query_only old new store prefix_text (Int tab ∷ Text begin ∷ limit_of ends ∷ []) _ 7 prefix_query.filter list_shown prefix_query.order prefix_query.limit prefix_query.offset prefix_means.is prefix_means.plain prefix_means.unlisted prefix_means.whole (range_typed false tab begin ends)
    stored.IsListRow (λ kept. are_lists old.now.trees (sound_of old kept)) _ (λ r typed. ((omega arith, (id_in (column r 3), typed.docid), (bytes (column r 4), typed.list)), omega arith, (bytes (column r 2), typed.term)))

pub lists_blamed : (tab : ℤ) (old new : State) → OnlyBlamed old new lists_text (Int tab ∷ []) IsTermRow
lists_blamed tab old new store =
    query_only old new store lists_text (Int tab ∷ []) _ 7 lists_query.filter list_shown lists_query.order lists_query.limit lists_query.offset lists_means.is lists_means.plain lists_means.unlisted lists_means.whole (λ db has no. true≢false (rw has at no))
    stored.IsListRow (λ kept. are_lists old.now.trees (sound_of old kept)) _ (λ r typed. ((omega arith, (id_in (column r 3), typed.docid), (bytes (column r 4), typed.list)), omega arith, (bytes (column r 2), typed.term)))

pub columns_blamed : (tab : ℤ) (old new : State) → OnlyBlamed old new columns_text (Int tab ∷ []) (λ row. (1 < length row) × IsInt (column row 0) × ((t : List ℕ) × (column row 1 ≡ Text t)))
columns_blamed tab old new store =
    query_only old new store columns_text (Int tab ∷ []) _ 3 columns_query.filter (2 ∷ 3 ∷ []) columns_query.order columns_query.limit columns_query.offset columns_means.is columns_means.plain columns_means.unlisted columns_means.whole (λ db has no. true≢false (rw has at no))
    IsColumnRow (λ kept. are_columns old.now.trees (sound_of old kept)) _ (λ r typed. (omega arith, (id_in (column r 2), typed.at), (bytes (column r 3), typed.name)))

pub skips_blamed : (tab : ℤ) (old new : State) → OnlyBlamed old new skips_text (Int tab ∷ []) (λ row. (0 < length row) × IsInt (column row 0))
skips_blamed tab old new store =
    query_only old new store skips_text (Int tab ∷ []) _ 13 skips_query.filter (2 ∷ []) skips_query.order skips_query.limit skips_query.offset skips_means.is skips_means.plain skips_means.unlisted skips_means.whole (λ db has no. true≢false (rw has at no))
    IsSkipRow (λ kept. are_skips old.now.trees (sound_of old kept)) _ (λ r typed. (omega arith, (id_in (column r 2), typed.at)))

-- ---- no statement

nothing_plain : IsPlain (understood store_schema [])
unfolding understood everything
nothing_plain = (refl, refl)

nothing_whole : is_whole [] 0 (understood store_schema []) ≡ true
unfolding understood everything
nothing_whole = refl

pub nothing_blamed : (old new : State) → (IsTrue old.is_open → IsStore old.now) → (e : Error) → e ≢ SqliteFailure code.OutOfMemory → IsNotRun old new [] [] e → IsBlamed old new
unfolding IsNotRun
nothing_blamed old new store e other (inr fails) = fails_blamed old new e other fails
nothing_blamed old new store e other (inl none) = unless_shut old new (λ blamed. blamed) (λ is. absurd (is_statement old [] [] (store is).schema nothing_plain nothing_whole e none.0))

-- ---- the noted names

-- what all rows under their keys have, all rows have
kept_in : {K X : Type 0} (R : K → K → Ordering) (total : IsTotalOrder R) (tie : (x y : K) → R x y ≡ Equal → x ≡ y) (V : X → X → Ordering) (v_total : IsTotalOrder V) (v_tie : (x y : X) → V x y ≡ Equal → x ≡ y) (Q : K × X → Type 0) (es : List (K × X)) → AreApart R es
    → AllByRecursion Q (keyed R es) → AllByRecursion Q es
kept_in R total tie V v_total v_tie Q es apart all =
    recursion_from_All Q es (All-permutation Q _ es (IsPermutation-sort_by (whole_cmp R total tie V) (whole_total R total tie V v_total v_tie) es) (All-from_recursion Q _ (subst (AllByRecursion Q) (sym (sorted-keyed R total tie V es apart)) all)))

abbrev IsTextNote : Row → Type 0
IsTextNote r = IsNoteRow r × IsUtf8 (note_entry r).1

are_text_notes : (s : State) → IsStore s.now → AreNotedTexts (value_of s.now.trees) → AllByRecursion IsTextNote (s.now.trees 11)
are_text_notes s kept texts =
    let sound = sound_of s kept in
    let named = kept_in name_cmp name_total tied_names name_cmp name_total tied_names (λ (n : List ℕ × List ℕ). IsUtf8 n.1) (map note_entry (s.now.trees 11)) (notes_apart s.now.trees sound kept.numbered.1.1.1.1.1.1.0) texts in
    all_both IsNoteRow (λ r. IsUtf8 (note_entry r).1) IsTextNote (λ r h k. (h, k)) (s.now.trees 11) (are_notes s.now.trees sound) (all_unmap (λ (n : List ℕ × List ℕ). IsUtf8 n.1) note_entry _ named)

pub noted_blamed : (old new : State) → AreNotedTexts (value_of old.now.trees) → OnlyBlamed old new noted_text [] (λ row. (0 < length row) × ((t : List ℕ) × (column row 0 ≡ Text t) × IsUtf8 t))
noted_blamed old new texts store =
    query_only old new store noted_text [] _ 11 [] (1 ∷ []) noted_query.order no_limit noted_query.offset noted_means.is noted_means.plain noted_means.unlisted noted_means.whole (λ db has no. true≢false (rw has at no))
    IsTextNote (λ kept. are_text_notes old kept texts) _ (λ r typed. (omega arith, (bytes (column r 1), typed.0.name, typed.1)))

-- ---- the names of tables

abbrev IsTextName : Row → Type 0
IsTextName r = IsNameRow r × IsUtf8 (table_entry r).1

are_text_names : (s : State) → IsStore s.now → AreTableTexts (value_of s.now.trees) → AllByRecursion IsTextName (s.now.trees 1)
are_text_names s kept texts =
    let named = kept_in int_cmp int_cmp_total tied_ints name_cmp name_total tied_names (λ (n : ℤ × List ℕ). IsUtf8 n.1) (map table_entry (s.now.trees 1)) (names_apart s.now.trees kept.numbered.1.0) texts in
    all_both IsNameRow (λ r. IsUtf8 (table_entry r).1) IsTextName (λ r h k. (h, k)) (s.now.trees 1) (are_names s.now.trees (sound_of s kept) kept.numbered.1.0) (all_unmap (λ (n : ℤ × List ℕ). IsUtf8 n.1) table_entry _ named)

pub names_blamed : (old new : State) → AreTableTexts (value_of old.now.trees) → OnlyBlamed old new names_text [] (λ row. (1 < length row) × IsInt (column row 0) × ((t : List ℕ) × (column row 1 ≡ Text t) × IsUtf8 t))
names_blamed old new texts store =
    query_only old new store names_text [] _ 1 [] (0 ∷ 2 ∷ []) names_query.order no_limit names_query.offset names_means.is names_means.plain names_means.unlisted names_means.whole (λ db has no. true≢false (rw has at no))
    IsTextName (λ kept. are_text_names old kept texts) _ (λ r typed. (omega arith, (id_in (column r 0), typed.0.id), (bytes (column r 2), typed.0.name, typed.1)))
