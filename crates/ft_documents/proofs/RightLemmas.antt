-- The row changes of rewrites lead to the rows and the index rows of the documents as they are to
-- be.
use Rattle.std.proofs.Common.{eqb-true, get_or, ◌≡◌, true, false, cond, not, ◌&&◌, List, [], ◌∷◌, ◌++◌, map, ℤ, refl, sym, ap, ◌∙◌, filter, unwrap_or, int_cmp, int_eq, ℕ, ◌+◌, ◌≤◌, Bool, ◌||◌, length, Option, Some, None, pos, subst, arith, is_some, All, ◌==◌, flat_map, Decides}
use Rattle.sqlite_keyed.proofs.ListLemmas.{map-map, all_from_test}
use Rattle.ft_content.proofs.{key_cmp_total, key_cmp_exact}
use Rattle.ft_documents.proofs.Common.{put, where_key, is_sorted, is_sorted-where_key, find, below_all, find-where_key, same_entries, map-append, list_any, list_all, int_cmp_total, and_parts, All-map, All-from_recursion, exact_signed, bytes_eq-Decides, slice_eq-Decides, Decides-eqb, Cell, Null, Int, Text, StoreValue, CellKey, cell_key_cmp, list_key_cmp, column_key_cmp, without_key, Change, PutCell, DropCells, all_applied, AreInOrder, ListKey, Key, Spot, key_cmp, index_rows, Documents, Column, Content, is_cell, is_document, content_rows, document_rows, Rewrite, under_docids, rewritten, befores, afters, rewritten_content, FitIfAny, AreOf, HasContent, AreRight, all_put, same_cell, changed, numbered_cells, goes, dropped_documents, put_documents, dropped_lists, put_lists, dropped_sizes, put_sizes, was_there, same_spot, same_spots, gone, sized, index_lists_of, sizes_of, table_rows, table_index}
use Rattle.ft_documents.specs.RewriteRows.{rewrite_changes}
use Rattle.ft_documents.proofs.StoreKeys.{list_exact, list_total, cell_exact, cell_total, list_keys, cell_keys, column_total, column_exact, own, joined, own_all_put, own_all_dropped}
use Rattle.ft_documents.proofs.KeyedRows.{same_int, true_of, of_true, all_dropped, found_holds, tie, none_below, sorted_put, find_all_put, or_else, fresh, changed_found, sorted-filter, turned_round, gone_is, sorted_dropped}
use Rattle.ft_documents.proofs.RowKinds.{rows_by, one_by, sorted_by, find_by, sorted_numbered, cells_are, cell_row, keyed_cell, content_cells, keyed_again, one_list, lists_are, size_of, sized_again, sizes_again, counts, stored_sizes, sizes_are}
use Rattle.ft_documents.proofs.CellSteps.{numbered_from}
use Rattle.ft_documents.proofs.RewriteLemmas.{Cells, written, before_found, sorted_rewritten, last_rows, rows_renewed}

-- ---- what the row changes of rewrites make of a store, kind by kind

pub applied_append : (xs ys : List Change) (store : StoreValue) → all_applied (xs ++ ys) store ≡ all_applied ys (all_applied xs store)
applied_append [] ys store = refl
applied_append (x ∷ xs) ys store = applied_append xs ys (all_applied (x ∷ []) store)

pub put_lists_applied : (tab : ℤ) (es : List (Key × List Spot)) (store : StoreValue) → all_applied (put_lists tab es) store ≡ record store { lists = all_put list_key_cmp (joined list_keys tab es) store.lists }
put_lists_applied tab [] store = refl
put_lists_applied tab (e ∷ es) store = put_lists_applied tab es (record store { lists = put list_key_cmp (tab, e.0.0, e.0.1) e.1 store.lists })

pub dropped_lists_applied : (tab : ℤ) (es : List (Key × List Spot)) (store : StoreValue) → all_applied (dropped_lists tab es) store ≡ record store { lists = all_dropped list_key_cmp list_total list_exact (joined list_keys tab es) store.lists }
dropped_lists_applied tab [] store = refl
dropped_lists_applied tab (e ∷ es) store = dropped_lists_applied tab es (record store { lists = without_key list_key_cmp (tab, e.0.0, e.0.1) store.lists })

pub put_sizes_applied : (tab : ℤ) (es : List ((ℤ × ℤ) × ℤ)) (store : StoreValue) → all_applied (put_sizes tab es) store ≡ record store { sizes = all_put cell_key_cmp (joined cell_keys tab es) store.sizes }
put_sizes_applied tab [] store = refl
put_sizes_applied tab (e ∷ es) store = put_sizes_applied tab es (record store { sizes = put cell_key_cmp (tab, e.0.0, e.0.1) e.1 store.sizes })

pub dropped_sizes_applied : (tab : ℤ) (es : List ((ℤ × ℤ) × ℤ)) (store : StoreValue) → all_applied (dropped_sizes tab es) store ≡ record store { sizes = all_dropped cell_key_cmp cell_total cell_exact (joined cell_keys tab es) store.sizes }
dropped_sizes_applied tab [] store = refl
dropped_sizes_applied tab (e ∷ es) store = dropped_sizes_applied tab es (record store { sizes = without_key cell_key_cmp (tab, e.0.0, e.0.1) store.sizes })

-- ---- cells

-- the cells of a rewrite that are new or differ
abbrev pub new_cells : Rewrite → List (ℤ × Cell)
new_cells r = changed int_cmp same_cell (numbered_cells (unwrap_or r.before [])) (numbered_cells (unwrap_or r.after []))

abbrev put_cell : ℤ → (ℤ × ℤ) × Cell → Change
put_cell tab e = PutCell tab e.0.0 e.0.1 e.1

cells_keyed : (tab : ℤ) (rewrites : List Rewrite) → put_documents tab rewrites ≡ map (put_cell tab) (rows_by new_cells (under_docids rewrites))
cells_keyed tab [] = refl
cells_keyed tab (r ∷ rs) = simp (map-append, map-map, cells_keyed tab rs)

cells_applied : (tab : ℤ) (es : List ((ℤ × ℤ) × Cell)) (store : StoreValue) → all_applied (map (put_cell tab) es) store ≡ record store { cells = all_put cell_key_cmp (joined cell_keys tab es) store.cells }
cells_applied tab [] store = refl
cells_applied tab (e ∷ es) store = cells_applied tab es (record store { cells = put cell_key_cmp (tab, e.0.0, e.0.1) e.1 store.cells })

pub put_documents_applied : (tab : ℤ) (rewrites : List Rewrite) (store : StoreValue) → all_applied (put_documents tab rewrites) store ≡ record store { cells = all_put cell_key_cmp (joined cell_keys tab (rows_by new_cells (under_docids rewrites))) store.cells }
put_documents_applied tab rewrites store = ap (λ cs. all_applied cs store) (cells_keyed tab rewrites) ∙ cells_applied tab (rows_by new_cells (under_docids rewrites)) store

-- documents that are dropped, from the rows of all tables and from those of one
abbrev pub cells_dropped : ℤ → List Rewrite → List (CellKey × Cell) → List (CellKey × Cell)
cells_dropped tab [] rows = rows
cells_dropped tab (r ∷ rs) rows = cells_dropped tab rs (where_key cell_key_cmp (λ k. not (int_eq tab k.0 && int_eq r.docid k.1)) rows)

abbrev pub documents_dropped : List Rewrite → List ((ℤ × ℤ) × Cell) → List ((ℤ × ℤ) × Cell)
documents_dropped [] rows = rows
documents_dropped (r ∷ rs) rows = documents_dropped rs (where_key column_key_cmp (λ k. not (int_eq r.docid k.0)) rows)

pub dropped_documents_applied : (tab : ℤ) (rewrites : List Rewrite) (store : StoreValue) → all_applied (dropped_documents tab rewrites) store ≡ record store { cells = cells_dropped tab (filter goes rewrites) store.cells }
dropped_documents_applied tab rewrites store = all (filter goes rewrites) store
  where
    all : (rs : List Rewrite) (store : StoreValue) → all_applied (map (λ (r : Rewrite). DropCells tab r.docid) rs) store ≡ record store { cells = cells_dropped tab rs store.cells }
    all [] store = refl
    all (r ∷ rs) store = all rs (record store { cells = where_key cell_key_cmp (λ k. not (int_eq tab k.0 && int_eq r.docid k.1)) store.cells })

pub sorted_cells_dropped : (tab : ℤ) (rs : List Rewrite) (rows : List (CellKey × Cell)) → is_sorted cell_key_cmp rows ≡ true → is_sorted cell_key_cmp (cells_dropped tab rs rows) ≡ true
sorted_cells_dropped tab [] rows h = h
sorted_cells_dropped tab (r ∷ rs) rows h = sorted_cells_dropped tab rs (where_key cell_key_cmp (λ k. not (int_eq tab k.0 && int_eq r.docid k.1)) rows) (true_of _ (is_sorted-where_key cell_key_cmp (λ k. not (int_eq tab k.0 && int_eq r.docid k.1)) rows (of_true _ h)))

one_dropped : (tab docid : ℤ) (rows : List (CellKey × Cell)) → own cell_keys tab (where_key cell_key_cmp (λ k. not (int_eq tab k.0 && int_eq docid k.1)) rows) ≡ where_key column_key_cmp (λ k. not (int_eq docid k.0)) (own cell_keys tab rows)
one_dropped tab docid [] = refl
one_dropped tab docid (e ∷ es) =
    let left = where_key cell_key_cmp (λ (k : CellKey). not (int_eq tab k.0 && int_eq docid k.1)) es in
    let bare : CellKey × Cell → (ℤ × ℤ) × Cell = λ e. ((e.0.1, e.0.2), e.1) in
    let mine : List (CellKey × Cell) → List (CellKey × Cell) = filter (λ (e : CellKey × Cell). int_eq tab e.0.0) in
    let kept = where_key column_key_cmp (λ (k : ℤ × ℤ). not (int_eq docid k.0)) (own cell_keys tab es) in
    elim (int_eq tab e.0.0) as (λ b. int_eq tab e.0.0 ≡ b → own cell_keys tab (cond (not (b && int_eq docid e.0.1)) (e ∷ left) left) ≡ where_key column_key_cmp (λ k. not (int_eq docid k.0)) (map bare (cond b (e ∷ mine es) (mine es)))) [
      | true ↦ λ same. elim (int_eq docid e.0.1) as (λ d. own cell_keys tab (cond (not d) (e ∷ left) left) ≡ cond (not d) (bare e ∷ kept) kept) [
        | true ↦ one_dropped tab docid es
        | false ↦ ap (λ b. map bare (cond b (e ∷ mine left) (mine left))) same ∙ ap (λ rows. bare e ∷ rows) (one_dropped tab docid es)
      ]
      | false ↦ λ apart. ap (λ b. map bare (cond b (e ∷ mine left) (mine left))) apart ∙ one_dropped tab docid es
    ] refl

pub own_dropped : (tab : ℤ) (rs : List Rewrite) (rows : List (CellKey × Cell)) → own cell_keys tab (cells_dropped tab rs rows) ≡ documents_dropped rs (own cell_keys tab rows)
own_dropped tab [] rows = refl
own_dropped tab (r ∷ rs) rows = own_dropped tab rs (where_key cell_key_cmp (λ k. not (int_eq tab k.0 && int_eq r.docid k.1)) rows) ∙ ap (documents_dropped rs) (one_dropped tab r.docid rows)

-- ---- the cells after rewrites

either : {V : Type 0} (a b : Bool) (o : Option V) → cond a None (cond (not b) o None) ≡ cond (b || a) None o
either true true o = refl
either true false o = refl
either false true o = refl
either false false o = refl

find_dropped : (q : ℤ × ℤ) (rs : List Rewrite) (rows : List ((ℤ × ℤ) × Cell)) → find column_key_cmp q (documents_dropped rs rows) ≡ cond (list_any (λ (r : Rewrite). int_eq q.0 r.docid) rs) None (find column_key_cmp q rows)
find_dropped q [] rows = refl
find_dropped q (r ∷ rs) rows =
    let p = λ (k : ℤ × ℤ). not (int_eq r.docid k.0) in
    let any = list_any (λ (r : Rewrite). int_eq q.0 r.docid) rs in
    find_dropped q rs (where_key column_key_cmp p rows)
    ∙ ap (cond any None) (find-where_key column_key_cmp p q (λ x t. ap p (sym (column_exact q x t))) rows ∙ ap (λ b. cond (not b) (find column_key_cmp q rows) None) (turned_round r.docid q.0))
    ∙ either any (int_eq q.0 r.docid) (find column_key_cmp q rows)

sorted_left : (rs : List Rewrite) (rows : List ((ℤ × ℤ) × Cell)) → is_sorted column_key_cmp rows ≡ true → is_sorted column_key_cmp (documents_dropped rs rows) ≡ true
sorted_left [] rows h = h
sorted_left (r ∷ rs) rows h = sorted_left rs (where_key column_key_cmp (λ k. not (int_eq r.docid k.0)) rows) (true_of _ (is_sorted-where_key column_key_cmp (λ k. not (int_eq r.docid k.0)) rows (of_true _ h)))

abbrev goes_at : Option Rewrite → Bool
goes_at None = false
goes_at (Some r) = goes r

goes_found : (docid : ℤ) (rs : List Rewrite) → is_sorted int_cmp (under_docids rs) ≡ true → list_any (λ (r : Rewrite). int_eq docid r.docid) (filter goes rs) ≡ goes_at (find int_cmp docid (under_docids rs))
goes_found docid [] h = refl
goes_found docid (r ∷ rs) h =
    let parts = and_parts (below_all int_cmp r.docid (under_docids rs)) (is_sorted int_cmp (under_docids rs)) h in
    let rest = goes_found docid rs parts.1 in
    let any = list_any (λ (r : Rewrite). int_eq docid r.docid) (filter goes rs) in
    let later = find int_cmp docid (under_docids rs) in
    elim (goes r) as (λ g. goes r ≡ g → list_any (λ (r : Rewrite). int_eq docid r.docid) (cond g (r ∷ filter goes rs) (filter goes rs)) ≡ goes_at (cond (int_eq docid r.docid) (Some r) later)) [
      | true ↦ λ is. elim (int_eq docid r.docid) as (λ b. (b || any) ≡ goes_at (cond b (Some r) later)) [ true ↦ sym is | false ↦ rest ]
      | false ↦ λ is. elim (int_eq docid r.docid) as (λ b. int_eq docid r.docid ≡ b → any ≡ goes_at (cond b (Some r) later)) [
        | true ↦ λ same. rest ∙ ap goes_at (none_below int_cmp int_cmp_total exact_signed docid r.docid (under_docids rs) same parts.0) ∙ sym is
        | false ↦ λ _. rest
      ] refl
    ] refl

-- ---- cells that are new or differ

pub cell_sound : (a b : Cell) → same_cell a b ≡ true → a ≡ b
cell_sound Null Null h = refl
cell_sound (Int m) (Int n) h = ap Int (exact_signed m n (tie _ h))
cell_sound (Text s) (Text t) h = ap Text ((bytes_eq-Decides s t).0 h)
cell_sound _ _ h = absurd (let no = h in cc)

abbrev either_cell : Option Cell → Option Cell → Option Cell
either_cell = or_else int_cmp int_cmp_total exact_signed

cell_case : (old new : Option Cell) → (new ≡ None → old ≡ None) → either_cell (fresh int_cmp int_cmp_total exact_signed same_cell old new) old ≡ new
cell_case old None short = short refl
cell_case None (Some v) short = refl
cell_case (Some w) (Some v) short =
    elim (same_cell w v) as (λ b. same_cell w v ≡ b → either_cell (cond (not b) (Some v) None) (Some w) ≡ Some v) [
      | true ↦ λ same. ap Some (cell_sound w v same)
      | false ↦ λ _. refl
    ] refl

-- where a longer list has no element a shorter one has none
none_shorter : (z : ℤ) (k : ℕ) (before after : List Cell) → length before ≤ length after → find int_cmp z (numbered_from k after) ≡ None → find int_cmp z (numbered_from k before) ≡ None
none_shorter z k [] after short = λ none. refl
none_shorter z k (x ∷ xs) [] short = absurd (omega arith)
none_shorter z k (x ∷ xs) (y ∷ ys) short =
    let less : length xs ≤ length ys = omega arith in
    elim (int_eq z (pos k)) as (λ b. cond b (Some y) (find int_cmp z (numbered_from (k + 1) ys)) ≡ None → cond b (Some x) (find int_cmp z (numbered_from (k + 1) xs)) ≡ None) [
      | true ↦ λ none. absurd (let no = none in cc)
      | false ↦ λ none. none_shorter z (k + 1) xs ys less none
    ]

-- a document that is there and stays keeps its columns
abbrev pub wide : Cells → Cells → Type 0
wide None after = Unit {0}
wide (Some before) None = Unit {0}
wide (Some before) (Some after) = length before ≤ length after

abbrev new_of : Cells → Cells → List (ℤ × Cell)
new_of before after = changed int_cmp same_cell (numbered_cells (unwrap_or before [])) (numbered_cells (unwrap_or after []))

written_cells : (q : ℤ × ℤ) (before after : Cells) → wide before after →
    either_cell (find int_cmp q.1 (new_of before after)) (cond (is_some before && not (is_some after)) None (one_by numbered_cells q before)) ≡ one_by numbered_cells q after
written_cells q None None w = refl
written_cells q None (Some a) w =
    ap (λ o. either_cell o None) (changed_found int_cmp int_cmp_total exact_signed same_cell q.1 [] (numbered_cells a) (sorted_numbered 0 a)) ∙ cell_case None (find int_cmp q.1 (numbered_cells a)) (λ _. refl)
written_cells q (Some b) None w = refl
written_cells q (Some b) (Some a) w =
    ap (λ o. either_cell o (find int_cmp q.1 (numbered_cells b))) (changed_found int_cmp int_cmp_total exact_signed same_cell q.1 (numbered_cells b) (numbered_cells a) (sorted_numbered 0 a))
    ∙ cell_case (find int_cmp q.1 (numbered_cells b)) (find int_cmp q.1 (numbered_cells a)) (none_shorter q.1 0 b a w)

-- what holds of all rewrites holds of the one that is found
pub found_passes : (P : Rewrite → Type 0) (docid : ℤ) (rewrites : List Rewrite) (r : Rewrite) → All P rewrites → find int_cmp docid (under_docids rewrites) ≡ Some r → P r
found_passes P docid rewrites r h = found_holds int_cmp int_cmp_total exact_signed (λ (e : ℤ × Rewrite). P e.1) docid r (under_docids rewrites) (All-map (λ (e : ℤ × Rewrite). P e.1) (λ (r : Rewrite). (r.docid, r)) rewrites h)

pub cells_right : (documents : Documents) (rewrites : List Rewrite) → is_sorted int_cmp documents ≡ true → is_sorted int_cmp (under_docids rewrites) ≡ true → All (λ (r : Rewrite). r.before ≡ find int_cmp r.docid documents) rewrites → All (λ (r : Rewrite). wide r.before r.after) rewrites →
    all_put column_key_cmp (rows_by new_cells (under_docids rewrites)) (documents_dropped (filter goes rewrites) (rows_by numbered_cells documents)) ≡ rows_by numbered_cells (rewritten rewrites documents)
cells_right documents rewrites ordered rising known fits =
    let puts = rows_by new_cells (under_docids rewrites) in
    let rows = rows_by numbered_cells documents in
    let left = documents_dropped (filter goes rewrites) rows in
    let each : (r : Rewrite) → is_sorted int_cmp (new_cells r) ≡ true = λ r. sorted-filter int_cmp int_cmp_total exact_signed (λ (c : ℤ × Cell). not (was_there same_cell (find int_cmp c.0 (numbered_cells (unwrap_or r.before []))) c.1)) (numbered_cells (unwrap_or r.after [])) (sorted_numbered 0 (unwrap_or r.after [])) in
    let in_order = cells_are.sorted documents ordered in
    let of_rewrite : ℤ × ℤ → Option Rewrite = λ q. find int_cmp q.0 (under_docids rewrites) in
    let either_row = or_else column_key_cmp column_total column_exact in
    same_entries column_key_cmp column_total column_exact (all_put column_key_cmp puts left) (rows_by numbered_cells (rewritten rewrites documents))
    (of_true _ (sorted_put column_key_cmp column_total column_exact puts left (sorted_left (filter goes rewrites) rows in_order)))
    (of_true _ (cells_are.sorted (rewritten rewrites documents) (sorted_rewritten rewrites documents ordered)))
    (λ q. find_all_put column_key_cmp column_total column_exact q puts left (sorted_by new_cells (under_docids rewrites) rising each)
    ∙ (λ i. either_row (find_by new_cells q (under_docids rewrites) rising i) ((find_dropped q (filter goes rewrites) rows ∙ (λ j. cond (goes_found q.0 rewrites rising j) None (cells_are.found q documents ordered j))) i))
    ∙ elim (of_rewrite q) as (λ x. of_rewrite q ≡ x → either_row (one_by new_cells q x) (cond (goes_at x) None (one_by numbered_cells q (find int_cmp q.0 documents))) ≡ one_by numbered_cells q (written x (find int_cmp q.0 documents))) [
      | None ↦ λ _. refl
      | Some r ↦ λ is. ap (λ held. either_row (find int_cmp q.1 (new_cells r)) (cond (goes r) None (one_by numbered_cells q held))) (sym (before_found q.0 documents rewrites r known is))
          ∙ written_cells q r.before r.after (found_passes (λ (r : Rewrite). wide r.before r.after) q.0 rewrites r fits is)
    ] refl
    ∙ sym (last_rows column_key_cmp column_total column_exact (λ k. k.0) (rows_by numbered_cells) (one_by numbered_cells) cells_are documents rewrites ordered rising known q))

-- ---- the store after all changes

module _ (tab : ℤ) (columns : List Column) (rewrites : List Rewrite) where
  abbrev lists_gone : List (Key × List Spot)
  lists_gone = changed key_cmp same_spots (index_lists_of columns (afters rewrites)) (index_lists_of columns (befores rewrites))

  abbrev lists_changed : List (Key × List Spot)
  lists_changed = changed key_cmp same_spots (index_lists_of columns (befores rewrites)) (index_lists_of columns (afters rewrites))

  abbrev sizes_gone : List ((ℤ × ℤ) × ℤ)
  sizes_gone = gone column_key_cmp (sizes_of columns (befores rewrites)) (sizes_of columns (afters rewrites))

  abbrev sizes_changed : List ((ℤ × ℤ) × ℤ)
  sizes_changed = changed column_key_cmp int_eq (sizes_of columns (befores rewrites)) (sizes_of columns (afters rewrites))

  abbrev cells_after : StoreValue → List (CellKey × Cell)
  cells_after store = all_put cell_key_cmp (joined cell_keys tab (rows_by new_cells (under_docids rewrites))) (cells_dropped tab (filter goes rewrites) store.cells)

  abbrev lists_after : StoreValue → List (ListKey × List Spot)
  lists_after store = all_put list_key_cmp (joined list_keys tab lists_changed) (all_dropped list_key_cmp list_total list_exact (joined list_keys tab lists_gone) store.lists)

  abbrev sizes_after : StoreValue → List (CellKey × ℤ)
  sizes_after store = all_put cell_key_cmp (joined cell_keys tab sizes_changed) (all_dropped cell_key_cmp cell_total cell_exact (joined cell_keys tab sizes_gone) store.sizes)

  store_after : (store : StoreValue) → all_applied (rewrite_changes tab columns rewrites) store ≡ record store { cells = cells_after store; lists = lists_after store; sizes = sizes_after store }
  unfolding rewrite_changes
  store_after store = simp (applied_append, dropped_documents_applied, put_documents_applied, dropped_lists_applied, put_lists_applied, dropped_sizes_applied, put_sizes_applied)

  pub order_after : (store : StoreValue) → AreInOrder store → AreInOrder (all_applied (rewrite_changes tab columns rewrites) store)
  order_after store order = subst AreInOrder (sym (store_after store)) (record {
    tables = order.tables;
    columns = order.columns;
    skipped = order.skipped;
    cells = sorted_put cell_key_cmp cell_total cell_exact (joined cell_keys tab (rows_by new_cells (under_docids rewrites))) (cells_dropped tab (filter goes rewrites) store.cells) (sorted_cells_dropped tab (filter goes rewrites) store.cells order.cells);
    lists = sorted_put list_key_cmp list_total list_exact (joined list_keys tab lists_changed) _ (sorted_dropped list_key_cmp list_total list_exact (joined list_keys tab lists_gone) store.lists order.lists);
    sizes = sorted_put cell_key_cmp cell_total cell_exact (joined cell_keys tab sizes_changed) _ (sorted_dropped cell_key_cmp cell_total cell_exact (joined cell_keys tab sizes_gone) store.sizes order.sizes);
    noted = order.noted;
  })

-- ---- tests that decide

spot_sound : (s t : Spot) → same_spot s t ≡ true → s ≡ t
spot_sound s t h =
    let a = and_parts (s.column == t.column) ((s.pos == t.pos) && ((s.place == t.place) && (s.size == t.size))) h in
    let b = and_parts (s.pos == t.pos) ((s.place == t.place) && (s.size == t.size)) a.1 in
    let c = and_parts (s.place == t.place) (s.size == t.size) b.1 in
    λ i. record { column = eqb-true s.column t.column a.0 i; pos = eqb-true s.pos t.pos b.0 i; place = eqb-true s.place t.place c.0 i; size = eqb-true s.size t.size c.1 i }

spot_decides : (s t : Spot) → Decides (same_spot s t) (s ≡ t)
spot_decides s t = (spot_sound s t, λ is. ap (same_spot s) (sym is) ∙ (λ i. one s.column i && (one s.pos i && (one s.place i && one s.size i))))
  where
    one : (n : ℕ) → (n == n) ≡ true
    one n = (Decides-eqb n n).1 refl

pub spots_decide : (ss ts : List Spot) → Decides (same_spots ss ts) (ss ≡ ts)
spots_decide ss ts = slice_eq-Decides spot_decides ss ts (same_spots ss ts) refl

-- ---- documents keep their columns

found_width : (width : ℕ) (docid : ℤ) (cells : List Cell) (documents : Documents) → list_all (is_document width) documents ≡ true → find int_cmp docid documents ≡ Some cells → length cells ≡ width
found_width width docid cells documents h is =
    let P : ℤ × List Cell → Type 0 = λ d. is_document width d ≡ true in
    let fits = found_holds int_cmp int_cmp_total exact_signed P docid cells documents (All-from_recursion P documents (all_from_test (is_document width) documents h)) is in
    eqb-true (length cells) width (and_parts (length cells == width) (list_all is_cell cells) fits).0

wide_at : (width : ℕ) (documents : Documents) (docid : ℤ) (before after : Option (List Cell)) → list_all (is_document width) documents ≡ true → before ≡ find int_cmp docid documents → FitIfAny width (record { docid = docid; before = before; after = after }) → wide before after
wide_at width documents docid None after h is fits = tt
wide_at width documents docid (Some b) None h is fits = tt
wide_at width documents docid (Some b) (Some a) h is fits =
    let one : length b ≡ width = found_width width docid b documents h (sym is) in
    let other : length a ≡ width = eqb-true (length a) width (and_parts (length a == width) (list_all is_cell a) fits).0 in
    omega (arith, one, other)

all_wide : (width : ℕ) (documents : Documents) (rewrites : List Rewrite) → list_all (is_document width) documents ≡ true → All (λ (r : Rewrite). r.before ≡ find int_cmp r.docid documents) rewrites → All (FitIfAny width) rewrites → All (λ (r : Rewrite). wide r.before r.after) rewrites
all_wide width documents rewrites h known fits = λ k d within. let r = get_or rewrites k d in wide_at width documents r.docid r.before r.after h (known k d within) (fits k d within)

-- ---- rows of a table under keys without it

shown_cells : (tab : ℤ) (store : StoreValue) → (table_rows tab store).cells ≡ map cell_row (own cell_keys tab store.cells)
shown_cells tab store = sym (map-map cell_row (λ (e : CellKey × Cell). ((e.0.1, e.0.2), e.1)) (filter (λ (e : CellKey × Cell). int_eq tab e.0.0) store.cells))

pub shown_sizes : (tab : ℤ) (store : StoreValue) → (table_index tab store).sizes ≡ map size_of (own cell_keys tab store.sizes)
shown_sizes tab store = sym (map-map size_of (λ (e : CellKey × ℤ). ((e.0.1, e.0.2), e.1)) (filter (λ (e : CellKey × ℤ). int_eq tab e.0.0) store.sizes))

module _ (name : List ℕ) (content : Content) (tab : ℤ) (store : StoreValue) (has : HasContent name content tab store) where
  pub own_cells : own cell_keys tab store.cells ≡ rows_by numbered_cells content.documents
  own_cells = sym (keyed_again (own cell_keys tab store.cells)) ∙ ap (map keyed_cell) (sym (shown_cells tab store) ∙ ap (λ rows. rows.cells) has.rows ∙ content_cells content.documents) ∙ keyed_again (rows_by numbered_cells content.documents)

  pub own_lists : own list_keys tab store.lists ≡ index_lists_of content.columns content.documents
  own_lists = ap (λ index. index.lists) has.index

  pub own_sizes : own cell_keys tab store.sizes ≡ sizes_of content.columns content.documents
  own_sizes = sym (sized_again (own cell_keys tab store.sizes)) ∙ ap sized (sym (shown_sizes tab store) ∙ ap (λ index. index.sizes) has.index) ∙ stored_sizes content.columns content.documents has.is_content.rising

  module _ (rewrites : List Rewrite) (are : AreOf content rewrites) where
    abbrev columns : List Column
    columns = content.columns

    abbrev last : Documents
    last = rewritten rewrites content.documents

    cells_last : own cell_keys tab (cells_after tab columns rewrites store) ≡ rows_by numbered_cells last
    cells_last =
        own_all_put cell_keys tab (rows_by new_cells (under_docids rewrites)) (cells_dropped tab (filter goes rewrites) store.cells) (sorted_cells_dropped tab (filter goes rewrites) store.cells has.order.cells)
        ∙ ap (all_put column_key_cmp (rows_by new_cells (under_docids rewrites))) (own_dropped tab (filter goes rewrites) store.cells ∙ ap (documents_dropped (filter goes rewrites)) own_cells)
        ∙ cells_right content.documents rewrites has.is_content.rising are.rising are.befores (all_wide (length columns) content.documents rewrites has.is_content.documents are.befores are.afters)

    lists_last : own list_keys tab (lists_after tab columns rewrites store) ≡ index_lists_of columns last
    lists_last =
        own_all_put list_keys tab (lists_changed tab columns rewrites) (all_dropped list_key_cmp list_total list_exact (joined list_keys tab (lists_gone tab columns rewrites)) store.lists) (sorted_dropped list_key_cmp list_total list_exact (joined list_keys tab (lists_gone tab columns rewrites)) store.lists has.order.lists)
        ∙ ap (all_put key_cmp (lists_changed tab columns rewrites)) (own_all_dropped list_keys tab (lists_gone tab columns rewrites) store.lists ∙ ap (all_dropped key_cmp key_cmp_total key_cmp_exact (lists_gone tab columns rewrites)) own_lists)
        ∙ rows_renewed key_cmp key_cmp_total key_cmp_exact (λ k. k.1) (index_lists_of columns) (one_list columns) (lists_are columns) content.documents rewrites has.is_content.rising are.rising are.befores same_spots same_spots (λ v w is. ((spots_decide v w).0 is, (spots_decide w v).1 (sym ((spots_decide v w).0 is))))

    sizes_last : own cell_keys tab (sizes_after tab columns rewrites store) ≡ sizes_of columns last
    sizes_last =
        own_all_put cell_keys tab (sizes_changed tab columns rewrites) (all_dropped cell_key_cmp cell_total cell_exact (joined cell_keys tab (sizes_gone tab columns rewrites)) store.sizes) (sorted_dropped cell_key_cmp cell_total cell_exact (joined cell_keys tab (sizes_gone tab columns rewrites)) store.sizes has.order.sizes)
        ∙ ap (all_put column_key_cmp (sizes_changed tab columns rewrites)) (own_all_dropped cell_keys tab (sizes_gone tab columns rewrites) store.sizes ∙ (λ i. all_dropped column_key_cmp column_total column_exact (gone_is column_key_cmp column_total column_exact (sizes_of columns (befores rewrites)) (sizes_of columns (afters rewrites)) i) (own_sizes i)))
        ∙ rows_renewed column_key_cmp column_total column_exact (λ k. k.0) (sizes_of columns) (one_by (counts columns)) (sizes_are columns) content.documents rewrites has.is_content.rising are.rising are.befores int_eq (λ _ _. true) (λ v w is. (same_int v w is, refl))

    pub rows_right : table_rows tab (all_applied (rewrite_changes tab columns rewrites) store) ≡ content_rows (rewritten_content rewrites content)
    rows_right =
        let after : StoreValue = record store { cells = cells_after tab columns rewrites store; lists = lists_after tab columns rewrites store; sizes = sizes_after tab columns rewrites store } in
        let cells : (table_rows tab after).cells ≡ flat_map document_rows last = shown_cells tab after ∙ ap (map cell_row) cells_last ∙ sym (content_cells last) in
        ap (table_rows tab) (store_after tab columns rewrites store) ∙ (λ i. record { columns = (has.rows i).columns; skipped = (has.rows i).skipped; cells = cells i })

    pub index_right : table_index tab (all_applied (rewrite_changes tab columns rewrites) store) ≡ index_rows (rewritten_content rewrites content)
    index_right =
        let after : StoreValue = record store { cells = cells_after tab columns rewrites store; lists = lists_after tab columns rewrites store; sizes = sizes_after tab columns rewrites store } in
        let sizes : (table_index tab after).sizes ≡ (index_rows (rewritten_content rewrites content)).sizes =
        shown_sizes tab after ∙ ap (map size_of) (sizes_last ∙ sym (stored_sizes columns last (sorted_rewritten rewrites content.documents has.is_content.rising))) ∙ sizes_again (index_rows (rewritten_content rewrites content)).sizes in
        ap (table_index tab) (store_after tab columns rewrites store) ∙ (λ i. record { lists = lists_last i; sizes = sizes i })

pub are_right : (tab : ℤ) (columns : List Column) (rewrites : List Rewrite) → AreRight tab columns rewrites (rewrite_changes tab columns rewrites)
are_right tab _ rewrites name content store has same are =
    subst (λ cs. (table_rows tab (all_applied (rewrite_changes tab cs rewrites) store) ≡ content_rows (rewritten_content rewrites content)) × (table_index tab (all_applied (rewrite_changes tab cs rewrites) store) ≡ index_rows (rewritten_content rewrites content)))
    same (rows_right name content tab store has rewrites are, index_right name content tab store has rewrites are)
