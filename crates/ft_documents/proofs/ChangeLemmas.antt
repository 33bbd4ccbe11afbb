-- What row changes do to the rows of one table.
use Rattle.std.proofs.Common.{◌≡◌, ℕ, Bool, true, false, cond, not, ◌&&◌, List, [], ◌∷◌, map, ℤ, pos, refl, sym, ap, ◌∙◌, filter, Ordering, Less, Equal, Greater, int_eq}
use Rattle.sqlite_trees.proofs.ListLemmas.{filter-filter}
use Rattle.ft_documents.proofs.Common.{enumerate_from, eq_by_cmp, eq_by_cmp_equiv, int_cmp_total, by_order, put, CmpEqualImpliesEq, exact_signed, Cell, TableRows, Spot, IndexRows, CellKey, ListKey, cell_key_cmp, list_key_cmp, column_key_cmp, with_columns, with_skipped, without_key, without_rows, AddTable, DropTable, PutCell, DropCells, PutEntries, DropEntries, PutSize, DropSize, ClearIndex, Note}
use Rattle.ft_documents.specs.RowLaws.{SparesOthers}
use Rattle.ft_documents.proofs.KeyedRows.{tie}
use Rattle.ft_documents.proofs.StoreKeys.{column_exact, cell_exact, list_exact}

-- ---- other tables' rows

spares_put : {K V : Type 0} (R : K → K → Ordering) → CmpEqualImpliesEq R → (tab_of : K → ℤ) (other : ℤ) (k : K) (v : V) (rows : List (K × V)) → int_eq other (tab_of k) ≡ false →
    filter (λ (e : K × V). int_eq other (tab_of e.0)) (put R k v rows) ≡ filter (λ (e : K × V). int_eq other (tab_of e.0)) rows
spares_put R exact tab_of other k v [] apart = ap (λ b. cond b ((k, v) ∷ []) []) apart
spares_put {K} {V} R exact tab_of other k v (e ∷ es) apart =
    let mine = λ (e : K × V). int_eq other (tab_of e.0) in
    elim (R k e.0) as (λ o. R k e.0 ≡ o → filter mine (by_order o ((k, v) ∷ e ∷ es) ((e.0, v) ∷ es) (e ∷ put R k v es)) ≡ filter mine (e ∷ es)) [
      | Less ↦ λ is. ap (λ b. cond b ((k, v) ∷ filter mine (e ∷ es)) (filter mine (e ∷ es))) apart
      | Equal ↦ λ is. let same : int_eq other (tab_of e.0) ≡ false = ap (λ x. int_eq other (tab_of x)) (sym (exact k e.0 is)) ∙ apart in
          ap (λ b. cond b ((e.0, v) ∷ filter mine es) (filter mine es)) same ∙ sym (ap (λ b. cond b (e ∷ filter mine es) (filter mine es)) same)
      | Greater ↦ λ is. ap (λ es. cond (mine e) (e ∷ es) es) (spares_put R exact tab_of other k v es apart)
    ] refl

-- a row of the other table is not of this one
not_this : (tab other t : ℤ) → int_eq other tab ≡ false → int_eq other t ≡ true → int_eq tab t ≡ false
not_this tab other t apart is = ap (λ x. int_eq tab x) (sym (exact_signed other t (tie _ is))) ∙ (eq_by_cmp_equiv int_cmp_total).symm tab other ∙ apart

-- rows that are left out of one table
spares_drop : {K V : Type 0} (tab_of : K → ℤ) (tab other : ℤ) (more : K → Bool) (rows : List (K × V)) → int_eq other tab ≡ false →
    filter (λ (e : K × V). int_eq other (tab_of e.0)) (filter (λ (e : K × V). not (int_eq tab (tab_of e.0) && more e.0)) rows) ≡ filter (λ (e : K × V). int_eq other (tab_of e.0)) rows
spares_drop {K} {V} tab_of tab other more rows apart =
    filter-filter (λ (e : K × V). int_eq other (tab_of e.0)) (λ (e : K × V). not (int_eq tab (tab_of e.0) && more e.0)) (λ e is. ap (λ b. not (b && more e.0)) (not_this tab other (tab_of e.0) apart is)) rows

spares_all : {K V : Type 0} (tab_of : K → ℤ) (tab other : ℤ) (rows : List (K × V)) → int_eq other tab ≡ false →
    filter (λ (e : K × V). int_eq other (tab_of e.0)) (filter (λ (e : K × V). not (int_eq tab (tab_of e.0))) rows) ≡ filter (λ (e : K × V). int_eq other (tab_of e.0)) rows
spares_all {K} {V} tab_of tab other rows apart =
    filter-filter (λ (e : K × V). int_eq other (tab_of e.0)) (λ (e : K × V). not (int_eq tab (tab_of e.0))) (λ e is. ap not (not_this tab other (tab_of e.0) apart is)) rows

-- a row left out by its key
spares_key : {K V : Type 0} (R : K → K → Ordering) → CmpEqualImpliesEq R → (tab_of : K → ℤ) (other : ℤ) (k : K) (rows : List (K × V)) → int_eq other (tab_of k) ≡ false →
    filter (λ (e : K × V). int_eq other (tab_of e.0)) (without_key R k rows) ≡ filter (λ (e : K × V). int_eq other (tab_of e.0)) rows
spares_key {K} {V} R exact tab_of other k rows apart =
    filter-filter (λ (e : K × V). int_eq other (tab_of e.0)) (λ (e : K × V). not (eq_by_cmp R k e.0))
    (λ e is. elim (eq_by_cmp R k e.0) as (λ b. eq_by_cmp R k e.0 ≡ b → not b ≡ true) [
      | true ↦ λ same. absurd (let one : int_eq other (tab_of k) ≡ true = ap (λ x. int_eq other (tab_of x)) (exact k e.0 (tie _ same)) ∙ is in let no = sym apart ∙ one in cc)
      | false ↦ λ _. refl
    ] refl) rows

spares_columns : (tab other : ℤ) (cs : List (ℕ × List ℕ)) (columns : List ((ℤ × ℤ) × List ℕ)) → int_eq other tab ≡ false →
    filter (λ (c : (ℤ × ℤ) × List ℕ). int_eq other c.0.0) (with_columns tab cs columns) ≡ filter (λ (c : (ℤ × ℤ) × List ℕ). int_eq other c.0.0) columns
spares_columns tab other [] columns apart = refl
spares_columns tab other (c ∷ cs) columns apart = spares_columns tab other cs (put column_key_cmp (tab, pos c.0) c.1 columns) apart ∙ spares_put column_key_cmp column_exact (λ k. k.0) other (tab, pos c.0) c.1 columns apart

spares_skipped : (tab other : ℤ) (cs : List ℤ) (skipped : List ((ℤ × ℤ) × Unit {0})) → int_eq other tab ≡ false →
    filter (λ (s : (ℤ × ℤ) × Unit {0}). int_eq other s.0.0) (with_skipped tab cs skipped) ≡ filter (λ (s : (ℤ × ℤ) × Unit {0}). int_eq other s.0.0) skipped
spares_skipped tab other [] skipped apart = refl
spares_skipped tab other (c ∷ cs) skipped apart = spares_skipped tab other cs (put column_key_cmp (tab, c) tt skipped) apart ∙ spares_put column_key_cmp column_exact (λ k. k.0) other (tab, c) tt skipped apart

-- what is read of a table, from its rows
abbrev rows_from : List ((ℤ × ℤ) × List ℕ) → List ((ℤ × ℤ) × Unit {0}) → List (CellKey × Cell) → TableRows
rows_from columns skipped cells = record {
  columns = map (λ (c : (ℤ × ℤ) × List ℕ). (c.0.1, c.1)) columns;
  skipped = map (λ (s : (ℤ × ℤ) × Unit {0}). s.0.1) skipped;
  cells = map (λ (c : CellKey × Cell). record { docid = c.0.1; column = c.0.2; value = c.1 }) cells;
}

abbrev index_from : List (ListKey × List Spot) → List (CellKey × ℤ) → IndexRows
index_from lists sizes = record {
  lists = map (λ (l : ListKey × List Spot). ((l.0.1, l.0.2), l.1)) lists;
  sizes = map (λ (z : CellKey × ℤ). record { docid = z.0.1; column = z.0.2; n = z.1 }) sizes;
}

abbrev of_table : {K V : Type 0} → (K → ℤ) → ℤ → List (K × V) → List (K × V)
of_table {K} {V} tab_of other rows = filter (λ (e : K × V). int_eq other (tab_of e.0)) rows

pub spares_others : SparesOthers
spares_others (AddTable id name columns skipped) other store h =
    let apart = h id refl in (
      (λ i. rows_from
          ((spares_columns id other (enumerate_from 0 columns) (without_rows id store).columns apart ∙ spares_all (λ (k : ℤ × ℤ). k.0) id other store.columns apart) i)
          ((spares_skipped id other skipped (without_rows id store).skipped apart ∙ spares_all (λ (k : ℤ × ℤ). k.0) id other store.skipped apart) i)
          (spares_all (λ (k : CellKey). k.0) id other store.cells apart i)),
      (λ i. index_from (spares_all (λ (k : ListKey). k.0) id other store.lists apart i) (spares_all (λ (k : CellKey). k.0) id other store.sizes apart i)),
    )
spares_others (DropTable id) other store h =
    let apart = h id refl in (
      (λ i. rows_from (spares_all (λ (k : ℤ × ℤ). k.0) id other store.columns apart i) (spares_all (λ (k : ℤ × ℤ). k.0) id other store.skipped apart i) (spares_all (λ (k : CellKey). k.0) id other store.cells apart i)),
      (λ i. index_from (spares_all (λ (k : ListKey). k.0) id other store.lists apart i) (spares_all (λ (k : CellKey). k.0) id other store.sizes apart i)),
    )
spares_others (PutCell tab docid column value) other store h =
    ((λ i. rows_from (of_table (λ (k : ℤ × ℤ). k.0) other store.columns) (of_table (λ (k : ℤ × ℤ). k.0) other store.skipped) (spares_put cell_key_cmp cell_exact (λ k. k.0) other (tab, docid, column) value store.cells (h tab refl) i)), refl)
spares_others (DropCells tab docid) other store h =
    ((λ i. rows_from (of_table (λ (k : ℤ × ℤ). k.0) other store.columns) (of_table (λ (k : ℤ × ℤ). k.0) other store.skipped) (spares_drop (λ (k : CellKey). k.0) tab other (λ (k : CellKey). int_eq docid k.1) store.cells (h tab refl) i)), refl)
spares_others (PutEntries tab term docid spots) other store h =
    (refl, (λ i. index_from (spares_put list_key_cmp list_exact (λ k. k.0) other (tab, term, docid) spots store.lists (h tab refl) i) (of_table (λ (k : CellKey). k.0) other store.sizes)))
spares_others (DropEntries tab term docid) other store h =
    (refl, (λ i. index_from (spares_key list_key_cmp list_exact (λ k. k.0) other (tab, term, docid) store.lists (h tab refl) i) (of_table (λ (k : CellKey). k.0) other store.sizes)))
spares_others (PutSize tab docid column n) other store h =
    (refl, (λ i. index_from (of_table (λ (k : ListKey). k.0) other store.lists) (spares_put cell_key_cmp cell_exact (λ k. k.0) other (tab, docid, column) n store.sizes (h tab refl) i)))
spares_others (DropSize tab docid column) other store h =
    (refl, (λ i. index_from (of_table (λ (k : ListKey). k.0) other store.lists) (spares_key cell_key_cmp cell_exact (λ k. k.0) other (tab, docid, column) store.sizes (h tab refl) i)))
spares_others (ClearIndex tab) other store h =
    let apart = h tab refl in
    (refl, (λ i. index_from (spares_all (λ (k : ListKey). k.0) tab other store.lists apart i) (spares_all (λ (k : CellKey). k.0) tab other store.sizes apart i)))
spares_others (Note name) other store h = (refl, refl)
