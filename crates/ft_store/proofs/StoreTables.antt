-- The tables of a store: each with its keys, what of the store's value its rows are, what they obey, and what a step makes of them.
use Rattle.std.proofs.Common.{ℕ, List, ◌≡◌, ◌≢◌, ℤ, Bool, true, false, not, ◌&&◌, [], ◌∷◌, map, None, refl, sym, ap, ap₂, ◌∙◌, Ordering, is_eq, true≢false, int_cmp, inl, inr, arith, Some, slice_get, Equal, drop, filter, subst, IsTrue, nat_eq, eqb-true, Ok, Less, Greater, flat_map, int_eq}
use Rattle.ft_store.proofs.Common.{Row, column, bytes, ListKey, AllByRecursion, eq_by_cmp, tied_itself, find, or_parts, int_cmp_total}
use Rattle.ft_store.proofs.Common.{nat_list_cmp_total, Value, Int, Text, first_key, without_case, Order, value_cmp-Text, binary, is_true, Compare, Eq}
use Rattle.ft_store.proofs.Common.{Ne, Binary, NoCase, Trees, IsAscending, rowid, Unique, agree, clashes, differ, IsSound, at_ints, at_texts}
use Rattle.ft_store.proofs.Common.{all_weaker, cell_key_cmp, list_key_cmp, column_key_cmp, name_cmp, and_parts, IsTotalOrder, Table, with_tree, Has}
use Rattle.ft_store.proofs.Common.{are_unique, Cell, CellKey, ColumnKey, StoreValue, list_all, put, where_key, eqb-false, put_row, is_int, is_taken}
use Rattle.ft_store.proofs.Common.{are_fresh, put_all, Term, holds, State, Shows, filter-map, ordering_then, ordering_reverse, Null, from_truth}
use Rattle.ft_store.proofs.Common.{numbered, Chosen, Executes, bound_value}
use Rattle.sqlite.specs.Kind.TheVariants as kind
use Rattle.ft_values.specs.Cells as cell
use Rattle.ft_store.specs.Rows.{list_key, table_entry, column_key, column_entry, skip_entry, cell_key, cell_entry, list_entry, size_entry, note_entry, keyed, value_of, num_of, txt_of}
use Rattle.ft_store.specs.Calls.{HasOwnRowids, HaveOwnRowids, IsStore, Steps}
use Rattle.ft_store.proofs.TypedLemmas.{IsInt, DifferIn, unequal, own-filter, own-put_row, own-put_all, tied_cell_keys, tied_list_keys}
use Rattle.ft_store.proofs.TypedLemmas.{tied_column_keys, tied_names, tied_ints, cell_key_total, list_key_total, column_key_total, name_total}
use Rattle.ft_store.proofs.TypedLemmas.{not_null, int_is, IsNameRow, IsColumnRow, IsSkipRow, IsCellRow, IsListRow, IsSizeRow, IsNoteRow, are_names}
use Rattle.ft_store.proofs.TypedLemmas.{are_columns, are_skips, are_cells, are_lists, are_sizes, are_notes}
use Rattle.ft_store.specs.Tables.{store_schema, plain_order, case_order, tab_table, col_table, cell_table, posting_table, sizes_table, noted_table, skip_table}
use Rattle.ft_store.proofs.KeyedLemmas.{AreApart, none_from, equal_from, keyed-where, keyed-put_row, keyed-put_all}
use Rattle.sqlite_schema.specs.declared.schema.Index.{Index}
use Rattle.ft_values.specs.declared.rows.Spot.{Spot}
use Rattle.ft_store.proofs.ChangeLemmas.{KeepsOthers, bare_table, Wrote, inserts_all, cast_null, cast_int, filter_same_on}
use Rattle.ft_store.specs.Groups.{put_each, PackedList, entry_values, entry_spots, with_lists}
use Rattle.sqlite.specs.Cast.{cast, cast_row}
use Rattle.ft_store.proofs.Texts.{add_lists_text, add_lists_terms, add_lists_means}

-- under its key the bytes of its list
abbrev pub stored_entry : Row → ListKey × List ℕ
stored_entry row = (list_key row, bytes (column row 4))

-- ---- no two rows of a table have one key

and_one : (a b : Bool) → (a && b) ≡ false → b ≡ true → a ≡ false
and_one true b h t = absurd (true≢false (sym t ∙ h))
and_one false b h t = refl

false_unless : (a b : Bool) → (a ≡ true → b ≡ true) → b ≡ false → a ≡ false
false_unless true b f h = absurd (true≢false (sym (f refl) ∙ h))
false_unless false b f h = refl

differs : (v w : Value) (m n : ℤ) → v ≡ Int m → w ≡ Int n → v ≢ w → differ w v ≡ true
differs v w m n e f rows_apart_of =
    ap₂ (λ a b. is_true (binary (Compare Ne Binary) a b)) f e ∙ at_ints false Ne n m ∙ ap not (unequal w v n m f e (λ same. rows_apart_of (sym same)))

module _ {K X : Type 0} (R : K → K → Ordering) (order : Order) (places : List ℕ) (P : Row → Type 0) (entry : Row → K × X)
    (agrees : (r s : Row) → P r → P s → eq_by_cmp R (entry r).0 (entry s).0 ≡ true → agree order places s places r ≡ true) where
  none_found : (r : Row) (rows : List Row) → P r → IsInt r → AllByRecursion P rows → AllByRecursion IsInt rows → AllByRecursion (DifferIn r) rows
      → clashes order places rows r ≡ false → find R (entry r).0 (map entry rows) ≡ None
  none_found r [] p int ps ints less free = refl
  none_found r (s ∷ rows) p int ps ints less free =
      let rows_apart_of = and_one _ _ (or_parts _ _ free).0 (differs (rowid r) (rowid s) _ _ (int_is _ int) (int_is _ ints.0) less.0) in
      none_from (eq_by_cmp R (entry r).0 (entry s).0) (entry s).1 (find R (entry r).0 (map entry rows)) (false_unless _ _ (agrees r s p ps.0) rows_apart_of)
      (none_found r rows p int ps.1 ints.1 less.1 (or_parts _ _ free).1)

  pub rows_apart_of : (rows : List Row) → IsAscending DifferIn rows → AllByRecursion IsInt rows → AllByRecursion P rows → AllByRecursion (λ r. clashes order places rows r ≡ false) rows → AreApart R (map entry rows)
  rows_apart_of [] up ints ps free = tt
  rows_apart_of (r ∷ rows) up ints ps free = (
    none_found r rows ps.0 ints.0 ps.1 ints.1 up.0 (or_parts _ _ free.0).1,
    rows_apart_of rows up.1 ints.1 ps.1 (all_weaker (λ s. clashes order places (r ∷ rows) s ≡ false) (λ s. clashes order places rows s ≡ false) (λ s h. (or_parts _ _ h).1) rows free.1),
  )

-- ---- columns that are equal agree

same_ints : (v w : Value) (m n : ℤ) → v ≡ Int m → w ≡ Int n → m ≡ n → is_true (binary (Compare Eq Binary) v w) ≡ true
same_ints v w m n p q e = ap₂ (λ a b. is_true (binary (Compare Eq Binary) a b)) p q ∙ at_ints false Eq m n ∙ ap is_eq (ap (int_cmp m) (sym e) ∙ tied_itself int_cmp_total m)

same_texts : (v w : Value) (s t : List ℕ) → v ≡ Text s → w ≡ Text t → s ≡ t → is_true (binary (Compare Eq Binary) v w) ≡ true
same_texts v w s t p q e = ap₂ (λ a b. is_true (binary (Compare Eq Binary) a b)) p q ∙ at_texts false Eq s t ∙ ap is_eq (ap (name_cmp s) (sym e) ∙ tied_itself nat_list_cmp_total s)

-- names that are equal without case
same_cases : (v w : Value) (s t : List ℕ) → v ≡ Text s → w ≡ Text t → without_case s ≡ without_case t → is_true (binary (Compare Eq NoCase) v w) ≡ true
unfolding binary
same_cases v w s t p q e =
    ap₂ (λ a b. is_true (binary (Compare Eq NoCase) a b)) p q
    ∙ ap (λ o. is_true (Rattle.sqlite_sql.specs.Ops.from_truth (Rattle.std.proofs.Common.Some (is_eq o)))) (value_cmp-Text (without_case s) (without_case t) ∙ ap (name_cmp (without_case s)) (sym e) ∙ tied_itself nat_list_cmp_total (without_case s))

then_true : {a b : Bool} → a ≡ true → b ≡ true → (a && b) ≡ true
then_true p q = ap₂ ◌&&◌ p q

cells_agree : (r s : Row) → IsCellRow r → IsCellRow s → eq_by_cmp cell_key_cmp (cell_key r) (cell_key s) ≡ true → agree plain_order (1 ∷ 2 ∷ 3 ∷ []) s (1 ∷ 2 ∷ 3 ∷ []) r ≡ true
unfolding first_key
cells_agree r s p q e =
    let same = sym (tied_cell_keys (cell_key r) (cell_key s) (equal_from _ e)) in
    then_true (same_ints _ _ _ _ q.tab p.tab (ap (λ k. k.0) same)) (then_true (same_ints _ _ _ _ q.docid p.docid (ap (λ k. k.1) same)) (then_true (same_ints _ _ _ _ q.at p.at (ap (λ k. k.2) same)) refl))

sizes_agree : (r s : Row) → IsSizeRow r → IsSizeRow s → eq_by_cmp cell_key_cmp (cell_key r) (cell_key s) ≡ true → agree plain_order (1 ∷ 2 ∷ 3 ∷ []) s (1 ∷ 2 ∷ 3 ∷ []) r ≡ true
unfolding first_key
sizes_agree r s p q e =
    let same = sym (tied_cell_keys (cell_key r) (cell_key s) (equal_from _ e)) in
    then_true (same_ints _ _ _ _ q.tab p.tab (ap (λ k. k.0) same)) (then_true (same_ints _ _ _ _ q.docid p.docid (ap (λ k. k.1) same)) (then_true (same_ints _ _ _ _ q.at p.at (ap (λ k. k.2) same)) refl))

lists_agree : (r s : Row) → IsListRow r → IsListRow s → eq_by_cmp list_key_cmp (list_key r) (list_key s) ≡ true → agree plain_order (1 ∷ 2 ∷ 3 ∷ []) s (1 ∷ 2 ∷ 3 ∷ []) r ≡ true
unfolding first_key
lists_agree r s p q e =
    let same = sym (tied_list_keys (list_key r) (list_key s) (equal_from _ e)) in
    then_true (same_ints _ _ _ _ q.tab p.tab (ap (λ k. k.0) same)) (then_true (same_texts _ _ _ _ q.term p.term (ap (λ k. k.1) same)) (then_true (same_ints _ _ _ _ q.docid p.docid (ap (λ k. k.2) same)) refl))

columns_agree : (r s : Row) → IsColumnRow r → IsColumnRow s → eq_by_cmp column_key_cmp (column_key r) (column_key s) ≡ true → agree plain_order (1 ∷ 2 ∷ []) s (1 ∷ 2 ∷ []) r ≡ true
unfolding first_key
columns_agree r s p q e =
    let same = sym (tied_column_keys (column_key r) (column_key s) (equal_from _ e)) in
    then_true (same_ints _ _ _ _ q.tab p.tab (ap (λ k. k.0) same)) (then_true (same_ints _ _ _ _ q.at p.at (ap (λ k. k.1) same)) refl)

skips_agree : (r s : Row) → IsSkipRow r → IsSkipRow s → eq_by_cmp column_key_cmp (column_key r) (column_key s) ≡ true → agree plain_order (1 ∷ 2 ∷ []) s (1 ∷ 2 ∷ []) r ≡ true
unfolding first_key
skips_agree r s p q e =
    let same = sym (tied_column_keys (column_key r) (column_key s) (equal_from _ e)) in
    then_true (same_ints _ _ _ _ q.tab p.tab (ap (λ k. k.0) same)) (then_true (same_ints _ _ _ _ q.at p.at (ap (λ k. k.1) same)) refl)

notes_agree : (r s : Row) → IsNoteRow r → IsNoteRow s → eq_by_cmp name_cmp (note_entry r).0 (note_entry s).0 ≡ true → agree case_order (1 ∷ []) s (1 ∷ []) r ≡ true
unfolding first_key
notes_agree r s p q e = then_true (same_cases _ _ _ _ q.name p.name (sym (tied_names (note_entry r).0 (note_entry s).0 (equal_from _ e)))) refl

-- a table under its name without case
abbrev pub case_entry : Row → List ℕ × Unit {0}
case_entry row = (without_case (bytes (column row 2)), tt)

cases_agree : (r s : Row) → IsNameRow r → IsNameRow s → eq_by_cmp name_cmp (case_entry r).0 (case_entry s).0 ≡ true → agree case_order (2 ∷ []) s (2 ∷ []) r ≡ true
unfolding first_key
cases_agree r s p q e = then_true (same_cases _ _ _ _ q.name p.name (sym (tied_names (case_entry r).0 (case_entry s).0 (equal_from _ e)))) refl

-- ---- each table

not_first : (b : Bool) → (not b && true) ≡ true → b ≡ false
not_first b h = not_null b (and_parts _ _ h).0

pub names_apart : (db : Trees) → HasOwnRowids (db 1) → AreApart int_cmp (map table_entry (db 1))
names_apart db shaped = go (db 1) shaped.0 shaped.1
  where
    missed : (r : Row) (rows : List Row) → IsInt r → AllByRecursion IsInt rows → AllByRecursion (DifferIn r) rows → find int_cmp (table_entry r).0 (map table_entry rows) ≡ None
    missed r [] int ints less = refl
    missed r (s ∷ rows) int ints less =
        none_from (eq_by_cmp int_cmp (table_entry r).0 (table_entry s).0) (table_entry s).1 (find int_cmp (table_entry r).0 (map table_entry rows))
        (unequal (rowid r) (rowid s) (table_entry r).0 (table_entry s).0 (int_is _ int) (int_is _ ints.0) less.0) (missed r rows int ints.1 less.1)

    go : (rows : List Row) → IsAscending DifferIn rows → AllByRecursion IsInt rows → AreApart int_cmp (map table_entry rows)
    go [] up ints = tt
    go (r ∷ rows) up ints = (missed r rows ints.0 ints.1 up.0, go rows up.1 ints.1)

-- nor have two tables one name
pub cases_apart : (db : Trees) → IsSound store_schema db → HasOwnRowids (db 1) → AreApart name_cmp (map case_entry (db 1))
cases_apart db sound shaped =
    rows_apart_of name_cmp case_order (2 ∷ []) IsNameRow case_entry cases_agree (db 1) shaped.0 shaped.1 (are_names db sound shaped)
    (all_weaker _ (λ r. clashes case_order (2 ∷ []) (db 1) r ≡ false) (λ r h. not_first _ h) (db 1) (sound.obeys.rules Unique).1.0)

pub columns_apart : (db : Trees) → IsSound store_schema db → HasOwnRowids (db 3) → AreApart column_key_cmp (map column_entry (db 3))
columns_apart db sound shaped =
    rows_apart_of column_key_cmp plain_order (1 ∷ 2 ∷ []) IsColumnRow column_entry columns_agree (db 3) shaped.0 shaped.1 (are_columns db sound)
    (all_weaker _ (λ r. clashes plain_order (1 ∷ 2 ∷ []) (db 3) r ≡ false) (λ r h. not_first _ h) (db 3) (sound.obeys.rules Unique).1.1.0)

pub cells_apart : (db : Trees) → IsSound store_schema db → HasOwnRowids (db 5) → AreApart cell_key_cmp (map cell_entry (db 5))
cells_apart db sound shaped =
    rows_apart_of cell_key_cmp plain_order (1 ∷ 2 ∷ 3 ∷ []) IsCellRow cell_entry cells_agree (db 5) shaped.0 shaped.1 (are_cells db sound)
    (all_weaker _ (λ r. clashes plain_order (1 ∷ 2 ∷ 3 ∷ []) (db 5) r ≡ false) (λ r h. not_first _ h) (db 5) (sound.obeys.rules Unique).1.1.1.0)

pub lists_apart : (db : Trees) → IsSound store_schema db → HasOwnRowids (db 7) → AreApart list_key_cmp (map stored_entry (db 7))
lists_apart db sound shaped =
    rows_apart_of list_key_cmp plain_order (1 ∷ 2 ∷ 3 ∷ []) IsListRow stored_entry lists_agree (db 7) shaped.0 shaped.1 (are_lists db sound)
    (all_weaker _ (λ r. clashes plain_order (1 ∷ 2 ∷ 3 ∷ []) (db 7) r ≡ false) (λ r h. not_first _ h) (db 7) (sound.obeys.rules Unique).1.1.1.1.0)

pub places_apart : (db : Trees) → IsSound store_schema db → HasOwnRowids (db 7) → AreApart list_key_cmp (map list_entry (db 7))
places_apart db sound shaped =
    rows_apart_of list_key_cmp plain_order (1 ∷ 2 ∷ 3 ∷ []) IsListRow list_entry lists_agree (db 7) shaped.0 shaped.1 (are_lists db sound)
    (all_weaker _ (λ r. clashes plain_order (1 ∷ 2 ∷ 3 ∷ []) (db 7) r ≡ false) (λ r h. not_first _ h) (db 7) (sound.obeys.rules Unique).1.1.1.1.0)

pub sizes_apart : (db : Trees) → IsSound store_schema db → HasOwnRowids (db 9) → AreApart cell_key_cmp (map size_entry (db 9))
sizes_apart db sound shaped =
    rows_apart_of cell_key_cmp plain_order (1 ∷ 2 ∷ 3 ∷ []) IsSizeRow size_entry sizes_agree (db 9) shaped.0 shaped.1 (are_sizes db sound)
    (all_weaker _ (λ r. clashes plain_order (1 ∷ 2 ∷ 3 ∷ []) (db 9) r ≡ false) (λ r h. not_first _ h) (db 9) (sound.obeys.rules Unique).1.1.1.1.1.0)

pub notes_apart : (db : Trees) → IsSound store_schema db → HasOwnRowids (db 11) → AreApart name_cmp (map note_entry (db 11))
notes_apart db sound shaped =
    rows_apart_of name_cmp case_order (1 ∷ []) IsNoteRow note_entry notes_agree (db 11) shaped.0 shaped.1 (are_notes db sound)
    (all_weaker _ (λ r. clashes case_order (1 ∷ []) (db 11) r ≡ false) (λ r h. not_first _ h) (db 11) (sound.obeys.rules Unique).1.1.1.1.1.1.0)

pub skips_apart : (db : Trees) → IsSound store_schema db → HasOwnRowids (db 13) → AreApart column_key_cmp (map skip_entry (db 13))
skips_apart db sound shaped =
    rows_apart_of column_key_cmp plain_order (1 ∷ 2 ∷ []) IsSkipRow skip_entry skips_agree (db 13) shaped.0 shaped.1 (are_skips db sound)
    (all_weaker _ (λ r. clashes plain_order (1 ∷ 2 ∷ []) (db 13) r ≡ false) (λ r h. not_first _ h) (db 13) (sound.obeys.rules Unique).1.1.1.1.1.1.1.0)

-- ---- the tables

pub same_store : {a b : StoreValue} → a.tables ≡ b.tables → a.columns ≡ b.columns → a.skipped ≡ b.skipped → a.cells ≡ b.cells → a.lists ≡ b.lists → a.sizes ≡ b.sizes → a.noted ≡ b.noted → a ≡ b
same_store tables columns skipped cells lists sizes noted =
    λ i. record { tables = tables i; columns = columns i; skipped = skipped i; cells = cells i; lists = lists i; sizes = sizes i; noted = noted i }

-- The place of the table among those of a store, its keys and their order, the entry of a row, where
-- the entries stand in the value, and the columns of the index of its keys.
pub record StoreTable (K X : Type 0) (P : Row → Type 0) : Type 0 where
  pub at : ℕ
  pub table : Table
  pub cmp : K → K → Ordering
  pub total : IsTotalOrder cmp
  pub tie : (x y : K) → cmp x y ≡ Equal → x ≡ y
  pub entry : Row → K × X
  pub rows : StoreValue → List (K × X)
  pub with_rows : List (K × X) → StoreValue → StoreValue
  pub order : Order
  pub places : List ℕ
  pub are : (db : Trees) → rows (value_of db) ≡ keyed cmp (map entry (db table.tree))
  pub got : (l : List (K × X)) (v : StoreValue) → rows (with_rows l v) ≡ l
  pub set : (l m : List (K × X)) (v : StoreValue) → with_rows m (with_rows l v) ≡ with_rows m v
  pub found : slice_get store_schema.tables at ≡ Some (bare_table table)
  pub listed : Has store_schema.tables (bare_table table)
  pub own : (db : Trees) → HaveOwnRowids store_schema.tables db → HasOwnRowids (db table.tree)
  pub typed : (db : Trees) → IsSound store_schema db → HasOwnRowids (db table.tree) → AllByRecursion P (db table.tree)
  pub apart : (db : Trees) → IsSound store_schema db → HasOwnRowids (db table.tree) → AreApart cmp (map entry (db table.tree))
  pub behind : 0 ≢ table.tree
  pub unique : (new : Trees) → are_unique store_schema.indexes new (bare_table table) [] ≡ true
  pub unique_if : (db : Trees) (rows : List Row) (row : Row) → clashes order places rows row ≡ false → are_unique store_schema.indexes (with_tree db table.tree rows) (bare_table table) (row ∷ []) ≡ true
  pub index : AllByRecursion (λ (i : Index). i.table ≡ table.tree → i.columns ≡ places) store_schema.indexes
  pub changes : (old new : Trees) → KeepsOthers table.tree old new → value_of new ≡ with_rows (keyed cmp (map entry (new table.tree))) (value_of old)

abbrev pub names : StoreTable ℤ (List ℕ) IsNameRow
names = record {
  at = 1;
  table = tab_table 1;
  cmp = int_cmp;
  total = int_cmp_total;
  tie = tied_ints;
  entry = table_entry;
  rows = λ v. v.tables;
  with_rows = λ l v. record v { tables = l };
  order = case_order;
  places = 2 ∷ [];
  are = λ db. refl;
  got = λ l v. refl;
  set = λ l m v. refl;
  found = refl;
  listed = inr (inl refl);
  own = λ db each. each.1.0;
  typed = λ db sound own. are_names db sound own;
  apart = λ db sound own. names_apart db own;
  behind = λ e. omega (arith, e);
  unique = λ new. refl;
  unique_if = λ db rows row free. rw free refl;
  index = ((λ e. refl), ((λ e. absurd (omega (arith, e))), ((λ e. absurd (omega (arith, e))), ((λ e. absurd (omega (arith, e))), ((λ e. absurd (omega (arith, e))), ((λ e. absurd (omega (arith, e))), ((λ e. absurd (omega (arith, e))), tt)))))));
  changes = λ old new others. same_store refl (ap (λ r. keyed column_key_cmp (map column_entry r)) (others.1.1.0 (λ e. omega (arith, e)))) (ap (λ r. keyed column_key_cmp (map skip_entry r)) (others.1.1.1.1.1.1.1.0 (λ e. omega (arith, e)))) (ap (λ r. keyed cell_key_cmp (map cell_entry r)) (others.1.1.1.0 (λ e. omega (arith, e)))) (ap (λ r. keyed list_key_cmp (map list_entry r)) (others.1.1.1.1.0 (λ e. omega (arith, e)))) (ap (λ r. keyed cell_key_cmp (map size_entry r)) (others.1.1.1.1.1.0 (λ e. omega (arith, e)))) (ap (λ r. keyed name_cmp (map note_entry r)) (others.1.1.1.1.1.1.0 (λ e. omega (arith, e))));
}

abbrev pub columns : StoreTable ColumnKey (List ℕ) IsColumnRow
columns = record {
  at = 2;
  table = col_table 3;
  cmp = column_key_cmp;
  total = column_key_total;
  tie = tied_column_keys;
  entry = column_entry;
  rows = λ v. v.columns;
  with_rows = λ l v. record v { columns = l };
  order = plain_order;
  places = 1 ∷ 2 ∷ [];
  are = λ db. refl;
  got = λ l v. refl;
  set = λ l m v. refl;
  found = refl;
  listed = inr (inr (inl refl));
  own = λ db each. each.1.1.0;
  typed = λ db sound own. are_columns db sound;
  apart = λ db sound own. columns_apart db sound own;
  behind = λ e. omega (arith, e);
  unique = λ new. refl;
  unique_if = λ db rows row free. rw free refl;
  index = ((λ e. absurd (omega (arith, e))), ((λ e. refl), ((λ e. absurd (omega (arith, e))), ((λ e. absurd (omega (arith, e))), ((λ e. absurd (omega (arith, e))), ((λ e. absurd (omega (arith, e))), ((λ e. absurd (omega (arith, e))), tt)))))));
  changes = λ old new others. same_store (ap (λ r. keyed int_cmp (map table_entry r)) (others.1.0 (λ e. omega (arith, e)))) refl (ap (λ r. keyed column_key_cmp (map skip_entry r)) (others.1.1.1.1.1.1.1.0 (λ e. omega (arith, e)))) (ap (λ r. keyed cell_key_cmp (map cell_entry r)) (others.1.1.1.0 (λ e. omega (arith, e)))) (ap (λ r. keyed list_key_cmp (map list_entry r)) (others.1.1.1.1.0 (λ e. omega (arith, e)))) (ap (λ r. keyed cell_key_cmp (map size_entry r)) (others.1.1.1.1.1.0 (λ e. omega (arith, e)))) (ap (λ r. keyed name_cmp (map note_entry r)) (others.1.1.1.1.1.1.0 (λ e. omega (arith, e))));
}

abbrev pub skipped : StoreTable ColumnKey (Unit {0}) IsSkipRow
skipped = record {
  at = 7;
  table = skip_table 13;
  cmp = column_key_cmp;
  total = column_key_total;
  tie = tied_column_keys;
  entry = skip_entry;
  rows = λ v. v.skipped;
  with_rows = λ l v. record v { skipped = l };
  order = plain_order;
  places = 1 ∷ 2 ∷ [];
  are = λ db. refl;
  got = λ l v. refl;
  set = λ l m v. refl;
  found = refl;
  listed = inr (inr (inr (inr (inr (inr (inr (inl refl)))))));
  own = λ db each. each.1.1.1.1.1.1.1.0;
  typed = λ db sound own. are_skips db sound;
  apart = λ db sound own. skips_apart db sound own;
  behind = λ e. omega (arith, e);
  unique = λ new. refl;
  unique_if = λ db rows row free. rw free refl;
  index = ((λ e. absurd (omega (arith, e))), ((λ e. absurd (omega (arith, e))), ((λ e. absurd (omega (arith, e))), ((λ e. absurd (omega (arith, e))), ((λ e. absurd (omega (arith, e))), ((λ e. absurd (omega (arith, e))), ((λ e. refl), tt)))))));
  changes = λ old new others. same_store (ap (λ r. keyed int_cmp (map table_entry r)) (others.1.0 (λ e. omega (arith, e)))) (ap (λ r. keyed column_key_cmp (map column_entry r)) (others.1.1.0 (λ e. omega (arith, e)))) refl (ap (λ r. keyed cell_key_cmp (map cell_entry r)) (others.1.1.1.0 (λ e. omega (arith, e)))) (ap (λ r. keyed list_key_cmp (map list_entry r)) (others.1.1.1.1.0 (λ e. omega (arith, e)))) (ap (λ r. keyed cell_key_cmp (map size_entry r)) (others.1.1.1.1.1.0 (λ e. omega (arith, e)))) (ap (λ r. keyed name_cmp (map note_entry r)) (others.1.1.1.1.1.1.0 (λ e. omega (arith, e))));
}

abbrev pub cells : StoreTable CellKey Cell IsCellRow
cells = record {
  at = 3;
  table = cell_table 5;
  cmp = cell_key_cmp;
  total = cell_key_total;
  tie = tied_cell_keys;
  entry = cell_entry;
  rows = λ v. v.cells;
  with_rows = λ l v. record v { cells = l };
  order = plain_order;
  places = 1 ∷ 2 ∷ 3 ∷ [];
  are = λ db. refl;
  got = λ l v. refl;
  set = λ l m v. refl;
  found = refl;
  listed = inr (inr (inr (inl refl)));
  own = λ db each. each.1.1.1.0;
  typed = λ db sound own. are_cells db sound;
  apart = λ db sound own. cells_apart db sound own;
  behind = λ e. omega (arith, e);
  unique = λ new. refl;
  unique_if = λ db rows row free. rw free refl;
  index = ((λ e. absurd (omega (arith, e))), ((λ e. absurd (omega (arith, e))), ((λ e. refl), ((λ e. absurd (omega (arith, e))), ((λ e. absurd (omega (arith, e))), ((λ e. absurd (omega (arith, e))), ((λ e. absurd (omega (arith, e))), tt)))))));
  changes = λ old new others. same_store (ap (λ r. keyed int_cmp (map table_entry r)) (others.1.0 (λ e. omega (arith, e)))) (ap (λ r. keyed column_key_cmp (map column_entry r)) (others.1.1.0 (λ e. omega (arith, e)))) (ap (λ r. keyed column_key_cmp (map skip_entry r)) (others.1.1.1.1.1.1.1.0 (λ e. omega (arith, e)))) refl (ap (λ r. keyed list_key_cmp (map list_entry r)) (others.1.1.1.1.0 (λ e. omega (arith, e)))) (ap (λ r. keyed cell_key_cmp (map size_entry r)) (others.1.1.1.1.1.0 (λ e. omega (arith, e)))) (ap (λ r. keyed name_cmp (map note_entry r)) (others.1.1.1.1.1.1.0 (λ e. omega (arith, e))));
}

abbrev pub lists : StoreTable ListKey (List Spot) IsListRow
lists = record {
  at = 4;
  table = posting_table 7;
  cmp = list_key_cmp;
  total = list_key_total;
  tie = tied_list_keys;
  entry = list_entry;
  rows = λ v. v.lists;
  with_rows = λ l v. record v { lists = l };
  order = plain_order;
  places = 1 ∷ 2 ∷ 3 ∷ [];
  are = λ db. refl;
  got = λ l v. refl;
  set = λ l m v. refl;
  found = refl;
  listed = inr (inr (inr (inr (inl refl))));
  own = λ db each. each.1.1.1.1.0;
  typed = λ db sound own. are_lists db sound;
  apart = λ db sound own. places_apart db sound own;
  behind = λ e. omega (arith, e);
  unique = λ new. refl;
  unique_if = λ db rows row free. rw free refl;
  index = ((λ e. absurd (omega (arith, e))), ((λ e. absurd (omega (arith, e))), ((λ e. absurd (omega (arith, e))), ((λ e. refl), ((λ e. absurd (omega (arith, e))), ((λ e. absurd (omega (arith, e))), ((λ e. absurd (omega (arith, e))), tt)))))));
  changes = λ old new others. same_store (ap (λ r. keyed int_cmp (map table_entry r)) (others.1.0 (λ e. omega (arith, e)))) (ap (λ r. keyed column_key_cmp (map column_entry r)) (others.1.1.0 (λ e. omega (arith, e)))) (ap (λ r. keyed column_key_cmp (map skip_entry r)) (others.1.1.1.1.1.1.1.0 (λ e. omega (arith, e)))) (ap (λ r. keyed cell_key_cmp (map cell_entry r)) (others.1.1.1.0 (λ e. omega (arith, e)))) refl (ap (λ r. keyed cell_key_cmp (map size_entry r)) (others.1.1.1.1.1.0 (λ e. omega (arith, e)))) (ap (λ r. keyed name_cmp (map note_entry r)) (others.1.1.1.1.1.1.0 (λ e. omega (arith, e))));
}

abbrev pub sizes : StoreTable CellKey ℤ IsSizeRow
sizes = record {
  at = 5;
  table = sizes_table 9;
  cmp = cell_key_cmp;
  total = cell_key_total;
  tie = tied_cell_keys;
  entry = size_entry;
  rows = λ v. v.sizes;
  with_rows = λ l v. record v { sizes = l };
  order = plain_order;
  places = 1 ∷ 2 ∷ 3 ∷ [];
  are = λ db. refl;
  got = λ l v. refl;
  set = λ l m v. refl;
  found = refl;
  listed = inr (inr (inr (inr (inr (inl refl)))));
  own = λ db each. each.1.1.1.1.1.0;
  typed = λ db sound own. are_sizes db sound;
  apart = λ db sound own. sizes_apart db sound own;
  behind = λ e. omega (arith, e);
  unique = λ new. refl;
  unique_if = λ db rows row free. rw free refl;
  index = ((λ e. absurd (omega (arith, e))), ((λ e. absurd (omega (arith, e))), ((λ e. absurd (omega (arith, e))), ((λ e. absurd (omega (arith, e))), ((λ e. refl), ((λ e. absurd (omega (arith, e))), ((λ e. absurd (omega (arith, e))), tt)))))));
  changes = λ old new others. same_store (ap (λ r. keyed int_cmp (map table_entry r)) (others.1.0 (λ e. omega (arith, e)))) (ap (λ r. keyed column_key_cmp (map column_entry r)) (others.1.1.0 (λ e. omega (arith, e)))) (ap (λ r. keyed column_key_cmp (map skip_entry r)) (others.1.1.1.1.1.1.1.0 (λ e. omega (arith, e)))) (ap (λ r. keyed cell_key_cmp (map cell_entry r)) (others.1.1.1.0 (λ e. omega (arith, e)))) (ap (λ r. keyed list_key_cmp (map list_entry r)) (others.1.1.1.1.0 (λ e. omega (arith, e)))) refl (ap (λ r. keyed name_cmp (map note_entry r)) (others.1.1.1.1.1.1.0 (λ e. omega (arith, e))));
}

abbrev pub noted : StoreTable (List ℕ) (List ℕ) IsNoteRow
noted = record {
  at = 6;
  table = noted_table 11;
  cmp = name_cmp;
  total = name_total;
  tie = tied_names;
  entry = note_entry;
  rows = λ v. v.noted;
  with_rows = λ l v. record v { noted = l };
  order = case_order;
  places = 1 ∷ [];
  are = λ db. refl;
  got = λ l v. refl;
  set = λ l m v. refl;
  found = refl;
  listed = inr (inr (inr (inr (inr (inr (inl refl))))));
  own = λ db each. each.1.1.1.1.1.1.0;
  typed = λ db sound own. are_notes db sound;
  apart = λ db sound own. notes_apart db sound own;
  behind = λ e. omega (arith, e);
  unique = λ new. refl;
  unique_if = λ db rows row free. rw free refl;
  index = ((λ e. absurd (omega (arith, e))), ((λ e. absurd (omega (arith, e))), ((λ e. absurd (omega (arith, e))), ((λ e. absurd (omega (arith, e))), ((λ e. absurd (omega (arith, e))), ((λ e. refl), ((λ e. absurd (omega (arith, e))), tt)))))));
  changes = λ old new others. same_store (ap (λ r. keyed int_cmp (map table_entry r)) (others.1.0 (λ e. omega (arith, e)))) (ap (λ r. keyed column_key_cmp (map column_entry r)) (others.1.1.0 (λ e. omega (arith, e)))) (ap (λ r. keyed column_key_cmp (map skip_entry r)) (others.1.1.1.1.1.1.1.0 (λ e. omega (arith, e)))) (ap (λ r. keyed cell_key_cmp (map cell_entry r)) (others.1.1.1.0 (λ e. omega (arith, e)))) (ap (λ r. keyed list_key_cmp (map list_entry r)) (others.1.1.1.1.0 (λ e. omega (arith, e)))) (ap (λ r. keyed cell_key_cmp (map size_entry r)) (others.1.1.1.1.1.0 (λ e. omega (arith, e)))) refl;
}

-- ---- what a write to one table leaves

pub shaped_after : (tree : ℕ) (old new : Trees) (tables : List Table) → AllByRecursion (λ t. t.tree ≢ tree → new t.tree ≡ old t.tree) tables → HaveOwnRowids tables old → HasOwnRowids (new tree) → HaveOwnRowids tables new
shaped_after tree old new [] others shaped here = tt
shaped_after tree old new (t ∷ tables) others shaped here = (go (nat_eq t.tree tree) refl, shaped_after tree old new tables others.1 shaped.1 here)
  where
    go : (b : Bool) → nat_eq t.tree tree ≡ b → HasOwnRowids (new t.tree)
    go true e = subst (λ n. HasOwnRowids (new n)) (sym (eqb-true t.tree tree e)) here
    go false e = subst (HasOwnRowids) (sym (others.0 (eqb-false t.tree tree e))) shaped.0

module _ (old new : State) (store : IsStore old.now) (shown : Shows old new new.now old.committed true) {K X : Type 0} {P : Row → Type 0} (t : StoreTable K X P) where
  sound : IsSound store_schema old.now.trees
  sound = subst (λ s. IsSound s old.now.trees) store.schema store.sound

  on_rows : (rows : List Row) (to : List (K × X)) → Wrote t.table.tree old new rows → HasOwnRowids rows → keyed t.cmp (map t.entry rows) ≡ to → Steps old new (t.with_rows to (value_of old.now.trees))
  on_rows rows to wrote shaped are = record {
    store = record {
      schema = wrote.schema;
      sound = wrote.sound;
      numbered = shaped_after t.table.tree old.now.trees new.now.trees store_schema.tables wrote.others store.numbered (subst (HasOwnRowids) (sym wrote.written) shaped);
      marked = ap (map (λ (r : Row). column r 2)) (wrote.others.0 t.behind) ∙ store.marked;
    };
    is = t.changes old.now.trees new.now.trees wrote.others ∙ ap (λ l. t.with_rows l (value_of old.now.trees)) (ap (λ r. keyed t.cmp (map t.entry r)) wrote.written ∙ are);
    shown = shown;
  }

  pub deleted : (params : Row) (terms : List Term) (p : K → Bool) → ((r : Row) → P r → list_all (holds (params ∷ r ∷ [])) terms ≡ p (t.entry r).0)
      → Wrote t.table.tree old new (filter (λ r. not (list_all (holds (params ∷ r ∷ [])) terms)) (old.now.trees t.table.tree))
      → Steps old new (t.with_rows (where_key t.cmp (λ k. not (p k)) (t.rows (value_of old.now.trees))) (value_of old.now.trees))
  deleted params terms p tests wrote =
      let rows = old.now.trees t.table.tree in
      let shaped = t.own old.now.trees store.numbered in
      on_rows _ _ wrote (own-filter _ rows shaped)
      (ap (λ l. keyed t.cmp (map t.entry l)) (filter_same_on P _ (λ r. not (p (t.entry r).0)) (λ r typed. ap not (tests r typed)) rows (t.typed old.now.trees sound shaped))
      ∙ ap (keyed t.cmp) (sym (filter-map (λ (e : K × X). not (p e.0)) t.entry rows)) ∙ keyed-where t.cmp t.total t.tie (λ k. not (p k)) (map t.entry rows)
      ∙ ap (where_key t.cmp (λ k. not (p k))) (sym (t.are old.now.trees)))

  pub added : (row : Row) → IsTrue (is_int (rowid row)) → Wrote t.table.tree old new (put_row row (old.now.trees t.table.tree)) × (is_taken (old.now.trees t.table.tree) row ≡ false)
      → find t.cmp (t.entry row).0 (t.rows (value_of old.now.trees)) ≡ None → Steps old new (t.with_rows (put t.cmp (t.entry row).0 (t.entry row).1 (t.rows (value_of old.now.trees))) (value_of old.now.trees))
  added row int made free =
      let rows = old.now.trees t.table.tree in
      let are = sym (t.are old.now.trees) in
      on_rows _ _ made.0 (own-put_row row rows int made.1 (t.own old.now.trees store.numbered))
      (keyed-put_row t.cmp t.total t.tie t.entry row rows made.1 (ap (find t.cmp (t.entry row).0) are ∙ free) ∙ ap (put t.cmp (t.entry row).0 (t.entry row).1) are)

  -- rows that were added at once are as if put one after the other
  pub added_all : (news : List Row) → AllByRecursion IsInt news → Wrote t.table.tree old new (put_all (old.now.trees t.table.tree) news) × (are_fresh (old.now.trees t.table.tree) news ≡ true)
      → Steps old new (t.with_rows (put_each t.cmp (map t.entry news) (t.rows (value_of old.now.trees))) (value_of old.now.trees))
  added_all news ints made =
      let rows = old.now.trees t.table.tree in
      let own = own-put_all news rows ints made.1 (t.own old.now.trees store.numbered) in
      let apart = t.apart new.now.trees (subst (λ s. IsSound s new.now.trees) made.0.schema made.0.sound) (subst HasOwnRowids (sym made.0.written) own) in
      on_rows _ _ made.0 own (keyed-put_all t.cmp t.total t.tie t.entry news rows made.1 (subst (λ l. AreApart t.cmp (map t.entry l)) made.0.written apart)
      ∙ ap (put_each t.cmp (map t.entry news)) (sym (t.are old.now.trees)))

-- ---- a column that equals a parameter

back_eq : (o : Ordering) → is_eq (ordering_reverse o) ≡ is_eq o
back_eq Less = refl
back_eq Equal = refl
back_eq Greater = refl

pub turned : (v w : Value) (m n : ℤ) → v ≡ Int m → w ≡ Int n → is_true (binary (Compare Eq Binary) v w) ≡ int_eq n m
turned v w m n p q =
    ap₂ (λ a b. is_true (binary (Compare Eq Binary) a b)) p q ∙ at_ints false Eq m n ∙ ap is_eq (int_cmp_total.antisymm m n) ∙ back_eq (int_cmp n m)

pub turned_text : (v w : Value) (s t : List ℕ) → v ≡ Text s → w ≡ Text t → is_true (binary (Compare Eq Binary) v w) ≡ is_eq (name_cmp t s)
turned_text v w s t p q =
    ap₂ (λ a b. is_true (binary (Compare Eq Binary) a b)) p q ∙ at_texts false Eq s t ∙ ap is_eq (nat_list_cmp_total.antisymm s t) ∙ back_eq (name_cmp t s)

truth_is : (b : Bool) → is_true (from_truth (Some b)) ≡ b
truth_is true = refl
truth_is false = refl

pub turned_case : (v w : Value) (s t : List ℕ) → v ≡ Text s → w ≡ Text t → is_true (binary (Compare Eq NoCase) v w) ≡ is_eq (name_cmp (without_case t) (without_case s))
unfolding binary
turned_case v w s t p q =
    ap₂ (λ a b. is_true (binary (Compare Eq NoCase) a b)) p q
    ∙ ap (λ o. is_true (from_truth (Some (is_eq o)))) (value_cmp-Text (without_case s) (without_case t)) ∙ truth_is _
    ∙ ap is_eq (nat_list_cmp_total.antisymm (without_case s) (without_case t)) ∙ back_eq (name_cmp (without_case t) (without_case s))

-- keys that tie column by column
both_tie : (o u : Ordering) → (is_eq o && is_eq u) ≡ is_eq (ordering_then o u)
both_tie Less u = refl
both_tie Equal u = refl
both_tie Greater u = refl

pub then_tie : {x y : Bool} (o u : Ordering) → x ≡ is_eq o → y ≡ is_eq u → (x && y) ≡ is_eq (ordering_then o u)
then_tie o u p q = ap₂ ◌&&◌ p q ∙ both_tie o u

-- ---- what a column makes of the value that is written to it

pub cast_num : (v : Cell) → cast kind.Integer (num_of v) ≡ num_of v
cast_num cell.Null = cast_null
cast_num (cell.Int n) = cast_int n
cast_num (cell.Text t) = cast_null

pub cast_txt : (v : Cell) → cast kind.Text (txt_of v) ≡ txt_of v
cast_txt cell.Null = refl
cast_txt (cell.Int n) = refl
cast_txt (cell.Text t) = refl

-- a parameter is bound as it is
pub bound_num : (v : Cell) → bound_value (num_of v) ≡ num_of v
bound_num cell.Null = refl
bound_num (cell.Int n) = refl
bound_num (cell.Text t) = refl

pub bound_txt : (v : Cell) → bound_value (txt_of v) ≡ txt_of v
bound_txt cell.Null = refl
bound_txt (cell.Int n) = refl
bound_txt (cell.Text t) = refl

-- a posting row as it is added, before it has a rowid
abbrev pub list_row : PackedList → Row
list_row e = Null ∷ entry_values e

pub cast_lists : (es : List PackedList) → map (λ s. cast_row (posting_table 7) (drop 0 s)) (map list_row es) ≡ map list_row es
cast_lists [] = refl
cast_lists (e ∷ es) = rw (cast_null, cast_int e.0.0, cast_int e.0.2, cast_lists es) refl

added_ints : (es : List PackedList) (rows : List Row) → AllByRecursion IsInt (numbered Chosen rows (map list_row es))
added_ints [] rows = tt
added_ints (e ∷ es) rows = (refl, added_ints es _)

added_entries : (es : List PackedList) (rows : List Row) → map list_entry (numbered Chosen rows (map list_row es)) ≡ map entry_spots es
added_entries [] rows = refl
added_entries (e ∷ es) rows = ap (λ l. entry_spots e ∷ l) (added_entries es _)

module _ (old new : State) (kept : IsStore old.now) (shown : Shows old new new.now old.committed true) where
  pub does_add_eight : (a b c d e f g h : PackedList) (count : ℕ) → Executes add_lists_text (flat_map entry_values (a ∷ b ∷ c ∷ d ∷ e ∷ f ∷ g ∷ h ∷ [])) old new (Ok count)
      → Steps old new (with_lists (a ∷ b ∷ c ∷ d ∷ e ∷ f ∷ g ∷ h ∷ []) (value_of old.now.trees))
  does_add_eight a b c d e f g h count ran =
      let es = a ∷ b ∷ c ∷ d ∷ e ∷ f ∷ g ∷ h ∷ [] in
      let rows = old.now.trees 7 in
      subst (λ l. Steps old new (record (value_of old.now.trees) { lists = put_each list_key_cmp l (value_of old.now.trees).lists })) (added_entries es rows)
      (added_all old new kept shown lists (numbered Chosen rows (map list_row es)) (added_ints es rows)
      (inserts_all old new add_lists_text (flat_map entry_values es) 4 (posting_table 7) add_lists_terms 5 (numbered Chosen rows (map list_row es)) count kept.schema add_lists_means.is add_lists_means.plain refl (ap (numbered Chosen rows) (cast_lists es)) ran))
