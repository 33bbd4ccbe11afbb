-- The rows of one term in an index are lists as they come.
use Rattle.std.proofs.Common.{◌≡◌, ℕ, ℤ, pos, negsuc, Bool, true, List, [], ◌∷◌, map, Option, Some, None, refl, sym, ap, subst, ◌∙◌, arith, filter, unwrap_or, nat_cmp, int_cmp, int_lt, int_eq, is_lt, is_eq, ◌<ℤ◌, Less, ◌&&◌}
use Rattle.std.specs.Cmp.Lexicographic.{slice_cmp, nat_list_cmp_total}
use Rattle.std.proofs.lemmas.List.Elements.{recursion_from_All, filter_passes}
use Rattle.sqlite_trees.specs.Tree.{IsAscending}
use Rattle.sqlite_keyed.proofs.ListLemmas.{all_map, all_weaker, all-filter, map-map, ascending-map, ascending-filter}
use Rattle.ft_match.proofs.{postings_rise}
use Rattle.ft_content.specs.Content.{Content, IsContent}
use Rattle.ft_content.specs.Index.{index_rows}
use Rattle.ft_content.specs.Meaning.{lists_with_terms}
use Rattle.ft_content.proofs.{lists_are_entries, key_cmp_total, key_cmp_exact, document_rises}
use Rattle.ft_documents.proofs.Common.{AllByRecursion, eq_by_cmp, and_parts, nat_tests, tied_itself, where_key, find, below_all, is_sorted, is_filled, places_with, PlaceList, Posting, Cell, Column, Key, Spot, ListKey, list_key_cmp, shown_list, bare_list, key_cmp, document_postings, document_entries, some_if_any, place_of, read_list, list_of, placed_in, AreListsOf}
use Rattle.ft_documents.proofs.AskedLemmas.{Below, one_rises, IsList, lists_in_order, of_table, untold, asked_lists}
use Rattle.ft_documents.proofs.KeyedRows.{each_found, less, then_equal}
use Rattle.ft_documents.proofs.PackedChanges.{spots_of, spot_at}
use Rattle.ft_documents.proofs.RowKinds.{one_list, lists_are}
use Rattle.ft_documents.proofs.TableListLemmas.{less_is}
use Rattle.ft_values.specs.declared.rows.ListRow.{ListRow}

-- ---- each list of an index

some_parts : (spots ss : List Spot) → some_if_any spots ≡ Some ss → (spots ≡ ss) × (is_filled (map place_of ss) ≡ true)
some_parts [] ss is = absurd (let no = is in cc)
some_parts (s ∷ spots) ss is = let same : s ∷ spots ≡ ss = ap (λ o. unwrap_or o []) is in (same, subst (λ xs. is_filled (map place_of xs) ≡ true) same refl)

-- that of a document
own_list : (columns : List Column) (q : Key) (held : Option (List Cell)) (ss : List Spot) → one_list columns q held ≡ Some ss → IsList (read_list (q.1, ss))
own_list columns q None ss is = absurd (let no = is in cc)
own_list columns q (Some cells) ss is =
    let ps = document_postings columns cells in
    let test : List ℕ → Bool = λ t. eq_by_cmp key_cmp q (t, q.1) in
    let parts = some_parts _ ss (sym (lists_are_entries (document_entries columns (q.1, cells)) q.0 q.1) ∙ is) in
    let same : (places_with test (record { docid = q.1; postings = ps })).places ≡ map place_of ss =
    sym (map-map place_of spot_at (filter (λ (p : Posting). test p.term) ps)) ∙ ap (map place_of) (sym (spots_of q q.1 ps) ∙ parts.0) in
    record {
      rises = subst (λ places. IsAscending Below (map (placed_in q.1) places)) same (one_rises test (record { docid = q.1; postings = ps }) (document_rises postings_rise columns cells));
      filled = parts.1;
    }

-- ---- by rising docid, where they are of one term

below_up : (k : Key) (ls : List (Key × List Spot)) → below_all key_cmp k ls ≡ true → AllByRecursion (λ l. key_cmp k l.0 ≡ Less) ls
below_up k [] h = tt
below_up k (l ∷ ls) h = let parts = and_parts (is_lt (key_cmp k l.0)) (below_all key_cmp k ls) h in (less _ parts.0, below_up k ls parts.1)

keys_up : (ls : List (Key × List Spot)) → is_sorted key_cmp ls ≡ true → IsAscending (λ a b. key_cmp a.0 b.0 ≡ Less) ls
keys_up [] h = tt
keys_up (l ∷ ls) h = let parts = and_parts (below_all key_cmp l.0 ls) (is_sorted key_cmp ls) h in (below_up l.0 ls parts.0, keys_up ls parts.1)

earlier : (a b : ℤ) → int_lt a b ≡ true → a <ℤ b
earlier (pos a) (pos b) h = grind (arith, nat_tests)
earlier (pos a) (negsuc b) h = absurd (let no = h in cc)
earlier (negsuc a) (pos b) h = omega arith
earlier (negsuc a) (negsuc b) h = grind (arith, nat_tests)

abbrev OfOneTerm : (List ℕ → Bool) → Type 0
OfOneTerm test = (a b : List ℕ) → test a ≡ true → test b ≡ true → a ≡ b

module _ (test : List ℕ → Bool) (one : OfOneTerm test) where
  below_docid : (a b : Key) → test a.0 ≡ true → test b.0 ≡ true → key_cmp a b ≡ Less → a.1 <ℤ b.1
  below_docid a b here there h =
      let tied : is_eq (slice_cmp nat_cmp a.0 b.0) ≡ true = ap (λ t. is_eq (slice_cmp nat_cmp a.0 t)) (sym (one a.0 b.0 here there)) ∙ ap is_eq (tied_itself nat_list_cmp_total a.0) in
      earlier a.1 b.1 (sym (less_is a.1 b.1) ∙ ap is_lt (sym (then_equal (slice_cmp nat_cmp a.0 b.0) (int_cmp a.1 b.1) tied) ∙ h))

  all_below : (l : Key × List Spot) (ls : List (Key × List Spot)) → test l.0.0 ≡ true → AllByRecursion (λ m. test m.0.0 ≡ true) ls → AllByRecursion (λ m. key_cmp l.0 m.0 ≡ Less) ls → AllByRecursion (λ m. l.0.1 <ℤ m.0.1) ls
  all_below l [] here there up = tt
  all_below l (m ∷ ls) here there up = (below_docid l.0 m.0 here there.0 up.0, all_below l ls here there.1 up.1)

  docids_up : (ls : List (Key × List Spot)) → AllByRecursion (λ l. test l.0.0 ≡ true) ls → IsAscending (λ a b. key_cmp a.0 b.0 ≡ Less) ls → IsAscending (λ a b. a.0.1 <ℤ b.0.1) ls
  docids_up [] passes up = tt
  docids_up (l ∷ ls) passes up = (all_below l ls passes.0 passes.1 up.0, docids_up ls passes.1 up.1)

-- ---- the rows that are asked for a term

pub term_rows : (name : List ℕ) (content : Content) → IsContent name content → (test : List ℕ → Bool) → OfOneTerm test →
    (tab : ℤ) (asks : ListKey → Bool) → ((k : ListKey) → asks k ≡ (int_eq tab k.0 && test k.1)) → (stored : List (ListKey × List Spot)) → of_table tab stored ≡ (index_rows content).lists →
    (rows : List ListRow) → map shown_list rows ≡ map bare_list (where_key list_key_cmp asks stored) → AreListsOf rows (map list_of rows)
term_rows name content is test one tab asks same stored its rows read =
    let lists = (index_rows content).lists in
    let asked = lists_with_terms test lists in
    let shown : Key × List Spot → PlaceList = λ l. read_list (untold l) in
    let sorted = (lists_are content.columns).sorted content.documents is.rising in
    let each : AllByRecursion (λ l. IsList (shown l)) lists =
    all_weaker (λ (l : Key × List Spot). find key_cmp l.0 lists ≡ Some l.1) (λ l. IsList (shown l))
    (λ l found. own_list content.columns l.0 (find int_cmp l.0.1 content.documents) l.1 (sym ((lists_are content.columns).found l.0 content.documents is.rising) ∙ found)) lists
    (each_found key_cmp key_cmp_total key_cmp_exact lists sorted) in
    let up = docids_up test one asked (recursion_from_All _ _ (filter_passes (λ (l : Key × List Spot). test l.0.0) lists)) (ascending-filter (λ (a b : Key × List Spot). key_cmp a.0 b.0 ≡ Less) (λ l. test l.0.0) lists (keys_up lists sorted)) in
    let are : map shown asked ≡ map list_of rows =
    sym (map-map read_list untold asked) ∙ ap (λ ls. map read_list (map untold (lists_with_terms test ls))) (sym its)
    ∙ ap (map read_list) (sym (read ∙ asked_lists tab asks test same stored)) ∙ map-map read_list shown_list rows in
    lists_in_order rows
    (subst (IsAscending (λ a b. a.docid <ℤ b.docid)) are (ascending-map (λ a b. a.docid <ℤ b.docid) shown asked up))
    (subst (AllByRecursion IsList) are (all_map IsList shown asked (all-filter (λ l. IsList (shown l)) (λ l. test l.0.0) lists each)))
