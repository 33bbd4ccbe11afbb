-- The rows of a table that is made.
use Rattle.std.proofs.Common.{◌≡◌, append-nil, ℕ, ◌+◌, Bool, true, false, cond, not, List, [], ◌∷◌, ◌++◌, map, length, Some, None, ℤ, pos, refl, sym, ap, ◌∙◌, arith, filter, IsTrue, Ordering, Equal, int_cmp, int_eq}
use Rattle.std.proofs.lemmas.List.Elements.{recursion_from_All, filter_passes}
use Rattle.sqlite_trees.proofs.ListLemmas.{filter_none}
use Rattle.sqlite_keyed.proofs.ListLemmas.{all_weaker}
use Rattle.ft_content.specs.Index.{index_rows, entries, sizes, spot_lists}
use Rattle.ft_documents.proofs.Common.{AllByRecursion, enumerate_from, eq_by_cmp, IsTotalOrder, int_cmp_total, put, find, where_key, is_sorted, is_sorted-put, is_sorted-where_key, find-put, find-where_key, same_entries, CmpEqualImpliesEq, exact_signed, Cell, StoreValue, AreInOrder, CellKey, ListKey, ColumnKey, cell_key_cmp, list_key_cmp, column_key_cmp, AddTable, applied, content_with, without_rows, with_columns, with_skipped, Column, names_of, skipped_from, content_rows, Spot, table_rows, table_index, all_put}
use Rattle.ft_documents.proofs.CellSteps.{numbered_from}
use Rattle.ft_documents.proofs.RowKinds.{under, sorted_under, passed_from, sorted_passed, sorted_numbered}
use Rattle.ft_documents.proofs.KeyedRows.{tie, true_of, of_true, itself, sorted_put, put_in_order}
use Rattle.ft_documents.proofs.StoreKeys.{column_total, column_exact}

-- ---- of the rows that pass, those that are put

pub own_put : {K V : Type 0} (R : K → K → Ordering) → IsTotalOrder R → CmpEqualImpliesEq R → (p : K → Bool) (k : K) (v : V) (rows : List (K × V)) → p k ≡ true → IsTrue (is_sorted R rows) →
    where_key R p (put R k v rows) ≡ put R k v (where_key R p rows)
own_put {K} {V} R total exact p k v rows passes sorted =
    same_entries R total exact (where_key R p (put R k v rows)) (put R k v (where_key R p rows))
    (is_sorted-where_key R p (put R k v rows) (is_sorted-put R total k v rows (of_true _ sorted)))
    (is_sorted-put R total k v (where_key R p rows) (is_sorted-where_key R p rows (of_true _ sorted)))
    (λ q. find-where_key R p q (alike q) (put R k v rows) ∙ ap (λ o. cond (p q) o None) (find-put R total q k v rows)
    ∙ elim (eq_by_cmp R q k) as (λ b. eq_by_cmp R q k ≡ b → cond (p q) (cond b (Some v) (find R q rows)) None ≡ cond b (Some v) (cond (p q) (find R q rows) None)) [ true ↦ λ e. ap (λ b. cond b (Some v) None) (ap p (exact q k (tie _ e)) ∙ passes) | false ↦ λ _. refl ] refl
    ∙ sym (find-put R total q k v (where_key R p rows) ∙ ap (λ o. cond (eq_by_cmp R q k) (Some v) o) (find-where_key R p q (alike q) rows)))
  where
    alike : (q x : K) → R q x ≡ Equal → p x ≡ p q
    alike q x e = ap p (sym (exact q x e))

own_put_all : {K V : Type 0} (R : K → K → Ordering) → IsTotalOrder R → CmpEqualImpliesEq R → (p : K → Bool) (new rows : List (K × V)) → AllByRecursion (λ (e : K × V). p e.0 ≡ true) new → IsTrue (is_sorted R rows) →
    where_key R p (all_put R new rows) ≡ all_put R new (where_key R p rows)
own_put_all R total exact p [] rows passes sorted = refl
own_put_all R total exact p (e ∷ es) rows passes sorted =
    own_put_all R total exact p es (put R e.0 e.1 rows) passes.1 (true_of _ (is_sorted-put R total e.0 e.1 rows (of_true _ sorted)))
    ∙ ap (all_put R es) (own_put R total exact p e.0 e.1 rows passes.0 sorted)

-- of rows that fail a test none passes it
none_left : {K V : Type 0} (p : K → Bool) (rows : List (K × V)) → filter (λ (e : K × V). p e.0) (filter (λ (e : K × V). not (p e.0)) rows) ≡ []
none_left {K} {V} p rows =
    filter_none (λ (e : K × V). p e.0) (filter (λ (e : K × V). not (p e.0)) rows)
    (all_weaker (λ (e : K × V). not (p e.0) ≡ true) (λ (e : K × V). p e.0 ≡ false) (λ e h. fails (p e.0) h) (filter (λ (e : K × V). not (p e.0)) rows) (recursion_from_All _ _ (filter_passes (λ (e : K × V). not (p e.0)) rows)))
  where
    fails : (b : Bool) → not b ≡ true → b ≡ false
    fails true h = absurd (let no = h in cc)
    fails false h = refl

under_own : {V : Type 0} (id : ℤ) (rows : List (ℤ × V)) → AllByRecursion (λ (e : ColumnKey × V). int_eq id e.0.0 ≡ true) (under id rows)
under_own id [] = tt
under_own id (r ∷ rs) = (itself id, under_own id rs)

-- so of rows without those of a table, and then with new ones in order, the new ones are the
-- table's
own_new : {V : Type 0} (id : ℤ) (new : List (ℤ × V)) (rows : List (ColumnKey × V)) → is_sorted int_cmp new ≡ true → IsTrue (is_sorted column_key_cmp rows) →
    where_key column_key_cmp (λ k. int_eq id k.0) (all_put column_key_cmp (under id new) (where_key column_key_cmp (λ k. not (int_eq id k.0)) rows)) ≡ under id new
own_new id new rows sorted order =
    own_put_all column_key_cmp column_total column_exact (λ k. int_eq id k.0) (under id new) (where_key column_key_cmp (λ k. not (int_eq id k.0)) rows) (under_own id new) (true_of _ (is_sorted-where_key column_key_cmp (λ k. not (int_eq id k.0)) rows (of_true _ order)))
    ∙ ap (all_put column_key_cmp (under id new)) (none_left (λ (k : ColumnKey). int_eq id k.0) rows)
    ∙ put_in_order column_key_cmp column_total column_exact (under id new) (ap (is_sorted column_key_cmp) (sym (append-nil (under id new))) ∙ sorted_under int_cmp int_cmp_total id new [] sorted (λ _. refl) refl)

-- ---- the columns of a table

columns_put : (id : ℤ) (k : ℕ) (names : List (List ℕ)) (rows : List (ColumnKey × List ℕ)) → with_columns id (enumerate_from k names) rows ≡ all_put column_key_cmp (under id (numbered_from k names)) rows
columns_put id k [] rows = refl
columns_put id k (name ∷ names) rows = columns_put id (k + 1) names (put column_key_cmp (id, pos k) name rows)

abbrev skips : List ℤ → List (ℤ × Unit {0})
skips cs = map (λ (c : ℤ). (c, tt)) cs

skipped_put : (id : ℤ) (cs : List ℤ) (rows : List (ColumnKey × Unit {0})) → with_skipped id cs rows ≡ all_put column_key_cmp (under id (skips cs)) rows
skipped_put id [] rows = refl
skipped_put id (c ∷ cs) rows = skipped_put id cs (put column_key_cmp (id, c) tt rows)

-- those that aren't indexed stand in order
skips_are : (k : ℕ) (columns : List Column) → skips (skipped_from k columns) ≡ passed_from (λ (c : Column). not c.indexed) (λ _. tt) k columns
skips_are k [] = refl
skips_are k (c ∷ cs) =
    let others = filter (λ (e : ℕ × Column). not e.1.indexed) (enumerate_from (k + 1) cs) in
    elim c.indexed as (λ b. skips (cond b (skipped_from (k + 1) cs) (pos k ∷ skipped_from (k + 1) cs)) ≡ map (λ (e : ℕ × Column). (pos e.0, tt)) (cond (not b) ((k, c) ∷ others) others)) [ true ↦ skips_are (k + 1) cs | false ↦ ap (λ l. (pos k, tt) ∷ l) (skips_are (k + 1) cs) ]

-- ---- what is read of the new table

names_back : (id : ℤ) (k : ℕ) (columns : List Column) → map {B = ℤ × List ℕ} (λ (c : ColumnKey × List ℕ). (c.0.1, c.1)) (under id (numbered_from k (names_of columns))) ≡ map {B = ℤ × List ℕ} (λ (c : ℕ × Column). (pos c.0, c.1.name)) (enumerate_from k columns)
names_back id k [] = refl
names_back id k (c ∷ cs) = ap (λ l. (pos k, c.name) ∷ l) (names_back id (k + 1) cs)

skips_back : (id : ℤ) (cs : List ℤ) → map (λ (s : ColumnKey × Unit {0}). s.0.1) (under id (skips cs)) ≡ cs
skips_back id [] = refl
skips_back id (c ∷ cs) = ap (λ l. c ∷ l) (skips_back id cs)

pub added_rows : (id : ℤ) (name : List ℕ) (columns : List Column) (store : StoreValue) → AreInOrder store → table_rows id (applied (AddTable id name (names_of columns) (skipped_from 0 columns)) store) ≡ content_rows (content_with columns [])
added_rows id name columns store order =
    let names = names_of columns in
    let skipped = skipped_from 0 columns in
    let name_at : ColumnKey × List ℕ → ℤ × List ℕ = λ c. (c.0.1, c.1) in
    let skip_at : ColumnKey × Unit {0} → ℤ = λ s. s.0.1 in
    let cs : map name_at (where_key column_key_cmp (λ k. int_eq id k.0) (with_columns id (enumerate_from 0 names) (without_rows id store).columns)) ≡ map {B = ℤ × List ℕ} (λ (c : ℕ × Column). (pos c.0, c.1.name)) (enumerate_from 0 columns) =
    ap (λ rows. map name_at (where_key column_key_cmp (λ k. int_eq id k.0) rows)) (columns_put id 0 names (without_rows id store).columns) ∙ ap (map name_at) (own_new id (numbered_from 0 names) store.columns (sorted_numbered 0 names) order.columns) ∙ names_back id 0 columns in
    let ss : map skip_at (where_key column_key_cmp (λ k. int_eq id k.0) (with_skipped id skipped (without_rows id store).skipped)) ≡ skipped =
    ap (λ rows. map skip_at (where_key column_key_cmp (λ k. int_eq id k.0) rows)) (skipped_put id skipped (without_rows id store).skipped)
    ∙ ap (map skip_at) (own_new id (skips skipped) store.skipped (ap (is_sorted int_cmp) (skips_are 0 columns) ∙ sorted_passed (λ (c : Column). not c.indexed) (λ _. tt) 0 columns) order.skipped) ∙ skips_back id skipped in
    λ i. record { columns = cs i; skipped = ss i; cells = map (λ (c : CellKey × Cell). record { docid = c.0.1; column = c.0.2; value = c.1 }) (none_left (λ (k : CellKey). int_eq id k.0) store.cells i) }

pub added_index : (id : ℤ) (name : List ℕ) (columns : List Column) (store : StoreValue) → table_index id (applied (AddTable id name (names_of columns) (skipped_from 0 columns)) store) ≡ index_rows (content_with columns [])
unfolding index_rows entries sizes spot_lists
added_index id name columns store = λ i. record {
  lists = map (λ (l : ListKey × List Spot). ((l.0.1, l.0.2), l.1)) (none_left (λ (k : ListKey). int_eq id k.0) store.lists i);
  sizes = map (λ (z : CellKey × ℤ). record { docid = z.0.1; column = z.0.2; n = z.1 }) (none_left (λ (k : CellKey). int_eq id k.0) store.sizes i);
}

-- the numbers of the columns that aren't indexed, of one column more
pub one_more_skipped : (k : ℕ) (cs : List Column) (c : Column) → skipped_from k (cs ++ c ∷ []) ≡ skipped_from k cs ++ cond c.indexed [] (pos (k + length cs) ∷ [])
one_more_skipped k [] c = elim c.indexed as (λ b. cond b (skipped_from (k + 1) []) (pos k ∷ skipped_from (k + 1) []) ≡ cond b [] (pos (k + 0) ∷ [])) [ true ↦ refl | false ↦ ap (λ n. pos n ∷ []) (let e : k ≡ k + 0 = omega arith in e) ]
one_more_skipped k (d ∷ ds) c =
    let rest = one_more_skipped (k + 1) ds c ∙ ap (λ n. skipped_from (k + 1) ds ++ cond c.indexed [] (pos n ∷ [])) (let e : k + 1 + length ds ≡ k + length (d ∷ ds) = omega arith in e) in
    elim d.indexed as (λ b. cond b (skipped_from (k + 1) (ds ++ c ∷ [])) (pos k ∷ skipped_from (k + 1) (ds ++ c ∷ [])) ≡ cond b (skipped_from (k + 1) ds) (pos k ∷ skipped_from (k + 1) ds) ++ cond c.indexed [] (pos (k + length (d ∷ ds)) ∷ [])) [
      | true ↦ rest
      | false ↦ ap (λ l. pos k ∷ l) rest
    ]

-- ---- all rows stay in order

others_sorted : {K V : Type 0} (R : K → K → Ordering) (p : K → Bool) (rows : List (K × V)) → is_sorted R rows ≡ true → is_sorted R (where_key R p rows) ≡ true
others_sorted R p rows sorted = true_of _ (is_sorted-where_key R p rows (of_true _ sorted))

columns_sorted : (id : ℤ) (cs : List (ℕ × List ℕ)) (rows : List (ColumnKey × List ℕ)) → is_sorted column_key_cmp rows ≡ true → is_sorted column_key_cmp (with_columns id cs rows) ≡ true
columns_sorted id [] rows sorted = sorted
columns_sorted id (c ∷ cs) rows sorted = columns_sorted id cs (put column_key_cmp (id, pos c.0) c.1 rows) (sorted_put column_key_cmp column_total column_exact (((id, pos c.0), c.1) ∷ []) rows sorted)

skips_sorted : (id : ℤ) (cs : List ℤ) (rows : List (ColumnKey × Unit {0})) → is_sorted column_key_cmp rows ≡ true → is_sorted column_key_cmp (with_skipped id cs rows) ≡ true
skips_sorted id [] rows sorted = sorted
skips_sorted id (c ∷ cs) rows sorted = skips_sorted id cs (put column_key_cmp (id, c) tt rows) (sorted_put column_key_cmp column_total column_exact (((id, c), tt) ∷ []) rows sorted)

pub added_in_order : (id : ℤ) (name : List ℕ) (columns : List (List ℕ)) (skipped : List ℤ) (store : StoreValue) → AreInOrder store → AreInOrder (applied (AddTable id name columns skipped) store)
added_in_order id name columns skipped store order = record {
  tables = sorted_put int_cmp int_cmp_total exact_signed ((id, name) ∷ []) _ (others_sorted int_cmp (λ k. not (int_eq id k)) store.tables order.tables);
  columns = columns_sorted id (enumerate_from 0 columns) _ (others_sorted column_key_cmp (λ k. not (int_eq id k.0)) store.columns order.columns);
  skipped = skips_sorted id skipped _ (others_sorted column_key_cmp (λ k. not (int_eq id k.0)) store.skipped order.skipped);
  cells = others_sorted cell_key_cmp (λ k. not (int_eq id k.0)) store.cells order.cells;
  lists = others_sorted list_key_cmp (λ k. not (int_eq id k.0)) store.lists order.lists;
  sizes = others_sorted cell_key_cmp (λ k. not (int_eq id k.0)) store.sizes order.sizes;
  noted = order.noted;
}
