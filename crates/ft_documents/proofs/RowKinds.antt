-- The cells, lists and sizes of documents as rows under keys.
use Rattle.std.proofs.Common.{◌≡◌, ℕ, ◌+◌, ◌<◌, Bool, true, false, cond, List, [], ◌∷◌, ◌++◌, map, Option, Some, None, ℤ, pos, refl, ap, ◌∙◌, arith, filter, flat_map, option_and_then, Ordering, Less, Equal, Greater, int_cmp, int_eq, is_eq, is_lt, map-id, length, sym, nat_lt}
use Rattle.std.proofs.lemmas.Simd.{map-map}
use Rattle.ft_content.specs.Index.{sizes, index_rows}
use Rattle.ft_content.proofs.{sorted_lists, old_found}
use Rattle.ft_documents.proofs.Common.{enumerate_from, ordering_then, IsTotalOrder, int_cmp_total, tied_itself, option_or, int_cmp-IsAntisymmetric, find, below_all, is_sorted, and_parts, and_from, map-append, PlainToken, Cell, column_key_cmp, Column, Documents, CellRow, document_rows, Key, key_cmp, Spot, SizeRow, size_row, document_tokens, document_sizes, entries, content_with, document_lists, sized, numbered_cells, all_put, index_lists_of, sizes_of}
use Rattle.ft_documents.proofs.KeyedRows.{none_below, true_of, of_true, put_in_order}
use Rattle.ft_documents.proofs.CellSteps.{numbered_from, pos_less}
use Rattle.ft_documents.proofs.StoreKeys.{column_total, column_exact}
use Rattle.ft_documents.proofs.RewriteLemmas.{AreRowsOf}

-- ---- rows under docid and column that come of documents

-- rows under numbers, under a key too
abbrev pub under : {A V : Type 0} → A → List (ℤ × V) → List ((A × ℤ) × V)
under a rows = map (λ c. ((a, c.0), c.1)) rows

abbrev pub rows_by : {X V : Type 0} → (X → List (ℤ × V)) → List (ℤ × X) → List ((ℤ × ℤ) × V)
rows_by rows_in es = flat_map (λ e. under e.0 (rows_in e.1)) es

then_less : (o r : Ordering) → is_lt o ≡ true → is_lt (ordering_then o r) ≡ true
then_less Less r h = refl
then_less _ r h = absurd (let no = h in cc)

abbrev both_cmp : {A : Type 0} → (A → A → Ordering) → A × ℤ → A × ℤ → Ordering
both_cmp R x y = ordering_then (R x.0 y.0) (int_cmp x.1 y.1)

module _ {A V : Type 0} (R : A → A → Ordering) (o : IsTotalOrder R) where
  -- what is found among rows of one key, and after them
  pub find_under : (q : A × ℤ) (a : A) (rows : List (ℤ × V)) (more : List ((A × ℤ) × V)) → find (both_cmp R) q (under a rows ++ more) ≡ cond (is_eq (R q.0 a)) (option_or (find int_cmp q.1 rows) (find (both_cmp R) q more)) (find (both_cmp R) q more)
  find_under q a [] more = elim (is_eq (R q.0 a)) as (λ b. find (both_cmp R) q more ≡ cond b (find (both_cmp R) q more) (find (both_cmp R) q more)) [ true ↦ refl | false ↦ refl ]
  find_under q a (c ∷ cs) more =
      let other = find (both_cmp R) q more in
      let rest = find_under q a cs more in
      elim (R q.0 a) as (λ r. R q.0 a ≡ r → cond (is_eq (ordering_then r (int_cmp q.1 c.0))) (Some c.1) (find (both_cmp R) q (under a cs ++ more)) ≡ cond (is_eq r) (option_or (cond (int_eq q.1 c.0) (Some c.1) (find int_cmp q.1 cs)) other) other) [
        | Less ↦ λ h. rest ∙ ap (λ r. cond (is_eq r) (option_or (find int_cmp q.1 cs) other) other) h
        | Equal ↦ λ h. elim (int_eq q.1 c.0) as (λ b. cond b (Some c.1) (find (both_cmp R) q (under a cs ++ more)) ≡ option_or (cond b (Some c.1) (find int_cmp q.1 cs)) other) [
          | true ↦ refl
          | false ↦ rest ∙ ap (λ r. cond (is_eq r) (option_or (find int_cmp q.1 cs) other) other) h
        ]
        | Greater ↦ λ h. rest ∙ ap (λ r. cond (is_eq r) (option_or (find int_cmp q.1 cs) other) other) h
      ] refl

  pub below_under : (x : A × ℤ) (a : A) (rows : List (ℤ × V)) (more : List ((A × ℤ) × V)) → is_lt (R x.0 a) ≡ true → below_all (both_cmp R) x more ≡ true → below_all (both_cmp R) x (under a rows ++ more) ≡ true
  below_under x a [] more less h = h
  below_under x a (c ∷ cs) more less h = and_from (is_lt (both_cmp R x (a, c.0))) (below_all (both_cmp R) x (under a cs ++ more)) (then_less (R x.0 a) (int_cmp x.1 c.0) less) (below_under x a cs more less h)

  below_own : (x : A × ℤ) (rows : List (ℤ × V)) (more : List ((A × ℤ) × V)) → below_all int_cmp x.1 rows ≡ true → below_all (both_cmp R) x more ≡ true → below_all (both_cmp R) x (under x.0 rows ++ more) ≡ true
  below_own x [] more h g = g
  below_own x (c ∷ cs) more h g =
      let parts = and_parts (is_lt (int_cmp x.1 c.0)) (below_all int_cmp x.1 cs) h in
      and_from (is_lt (both_cmp R x (x.0, c.0))) (below_all (both_cmp R) x (under x.0 cs ++ more)) (ap (λ r. is_lt (ordering_then r (int_cmp x.1 c.0))) (tied_itself o x.0) ∙ parts.0) (below_own x cs more parts.1 g)

  pub sorted_under : (a : A) (rows : List (ℤ × V)) (more : List ((A × ℤ) × V)) → is_sorted int_cmp rows ≡ true → ((n : ℤ) → below_all (both_cmp R) (a, n) more ≡ true) → is_sorted (both_cmp R) more ≡ true → is_sorted (both_cmp R) (under a rows ++ more) ≡ true
  sorted_under a [] more h below g = g
  sorted_under a (c ∷ cs) more h below g =
      let parts = and_parts (below_all int_cmp c.0 cs) (is_sorted int_cmp cs) h in
      and_from (below_all (both_cmp R) (a, c.0) (under a cs ++ more)) (is_sorted (both_cmp R) (under a cs ++ more)) (below_own (a, c.0) cs more parts.0 (below c.0)) (sorted_under a cs more parts.1 below g)

pub or_none : {V : Type 0} (o : Option V) → option_or o None ≡ o
or_none None = refl
or_none (Some v) = refl

module _ {X V : Type 0} (rows_in : X → List (ℤ × V)) where
  below_rows : (docid column : ℤ) (es : List (ℤ × X)) → below_all int_cmp docid es ≡ true → below_all column_key_cmp (docid, column) (rows_by rows_in es) ≡ true
  below_rows docid column [] h = refl
  below_rows docid column (e ∷ es) h =
      let parts = and_parts (is_lt (int_cmp docid e.0)) (below_all int_cmp docid es) h in
      below_under int_cmp int_cmp_total (docid, column) e.0 (rows_in e.1) (rows_by rows_in es) parts.0 (below_rows docid column es parts.1)

  pub sorted_by : (es : List (ℤ × X)) → is_sorted int_cmp es ≡ true → ((x : X) → is_sorted int_cmp (rows_in x) ≡ true) → is_sorted column_key_cmp (rows_by rows_in es) ≡ true
  sorted_by [] h each = refl
  sorted_by (e ∷ es) h each =
      let parts = and_parts (below_all int_cmp e.0 es) (is_sorted int_cmp es) h in
      sorted_under int_cmp int_cmp_total e.0 (rows_in e.1) (rows_by rows_in es) (each e.1) (λ column. below_rows e.0 column es parts.0) (sorted_by es parts.1 each)

  abbrev pub one_by : ℤ × ℤ → Option X → Option V
  one_by q x = option_and_then (λ x. find int_cmp q.1 (rows_in x)) x

  pub find_by : (q : ℤ × ℤ) (es : List (ℤ × X)) → is_sorted int_cmp es ≡ true → find column_key_cmp q (rows_by rows_in es) ≡ one_by q (find int_cmp q.0 es)
  find_by q [] h = refl
  find_by q (e ∷ es) h =
      let parts = and_parts (below_all int_cmp e.0 es) (is_sorted int_cmp es) h in
      let rest = find_by q es parts.1 in
      let own = find int_cmp q.1 (rows_in e.1) in
      find_under int_cmp int_cmp_total q e.0 (rows_in e.1) (rows_by rows_in es)
      ∙ elim (int_eq q.0 e.0) as (λ b. int_eq q.0 e.0 ≡ b → cond b (option_or own (find column_key_cmp q (rows_by rows_in es))) (find column_key_cmp q (rows_by rows_in es)) ≡ one_by q (cond b (Some e.1) (find int_cmp q.0 es))) [
        | true ↦ λ same. ap (option_or own) (rest ∙ ap (one_by q) (none_below int_cmp int_cmp_total int_cmp-IsAntisymmetric q.0 e.0 es same parts.0)) ∙ or_none own
        | false ↦ λ apart. rest
      ] refl

-- ---- numbered elements

module _ {X V : Type 0} (p : X → Bool) (f : X → V) where
  -- those that pass, under their numbers from one on
  abbrev pub passed_from : ℕ → List X → List (ℤ × V)
  passed_from k xs = map (λ (c : ℕ × X). (pos c.0, f c.1)) (filter (λ (c : ℕ × X). p c.1) (enumerate_from k xs))

  below_passed : (a k : ℕ) (xs : List X) → a < k → below_all int_cmp (pos a) (passed_from k xs) ≡ true
  below_passed a k [] h = refl
  below_passed a k (x ∷ xs) h =
      let later : a < k + 1 = omega arith in
      let rest = below_passed a (k + 1) xs later in
      elim (p x) as (λ b. below_all int_cmp (pos a) (map (λ (c : ℕ × X). (pos c.0, f c.1)) (cond b ((k, x) ∷ filter (λ (c : ℕ × X). p c.1) (enumerate_from (k + 1) xs)) (filter (λ (c : ℕ × X). p c.1) (enumerate_from (k + 1) xs)))) ≡ true) [
        | true ↦ and_from (is_lt (int_cmp (pos a) (pos k))) (below_all int_cmp (pos a) (passed_from (k + 1) xs)) (ap is_lt (pos_less a k h)) rest
        | false ↦ rest
      ]

  pub sorted_passed : (k : ℕ) (xs : List X) → is_sorted int_cmp (passed_from k xs) ≡ true
  sorted_passed k [] = refl
  sorted_passed k (x ∷ xs) =
      let next : k < k + 1 = omega arith in
      let rest = sorted_passed (k + 1) xs in
      elim (p x) as (λ b. is_sorted int_cmp (map (λ (c : ℕ × X). (pos c.0, f c.1)) (cond b ((k, x) ∷ filter (λ (c : ℕ × X). p c.1) (enumerate_from (k + 1) xs)) (filter (λ (c : ℕ × X). p c.1) (enumerate_from (k + 1) xs)))) ≡ true) [
        | true ↦ and_from (below_all int_cmp (pos k) (passed_from (k + 1) xs)) (is_sorted int_cmp (passed_from (k + 1) xs)) (below_passed k (k + 1) xs next) rest
        | false ↦ rest
      ]

below_numbered : {X : Type 0} (a k : ℕ) (xs : List X) → a < k → below_all int_cmp (pos a) (numbered_from k xs) ≡ true
below_numbered a k [] h = refl
below_numbered a k (x ∷ xs) h = let later : a < k + 1 = omega arith in and_from (is_lt (int_cmp (pos a) (pos k))) (below_all int_cmp (pos a) (numbered_from (k + 1) xs)) (ap is_lt (pos_less a k h)) (below_numbered a (k + 1) xs later)

pub sorted_numbered : {X : Type 0} (k : ℕ) (xs : List X) → is_sorted int_cmp (numbered_from k xs) ≡ true
sorted_numbered k [] = refl
sorted_numbered k (x ∷ xs) = let next : k < k + 1 = omega arith in and_from (below_all int_cmp (pos k) (numbered_from (k + 1) xs)) (is_sorted int_cmp (numbered_from (k + 1) xs)) (below_numbered k (k + 1) xs next) (sorted_numbered (k + 1) xs)

-- ---- cells

abbrev pub cell_row : (ℤ × ℤ) × Cell → CellRow
cell_row e = record { docid = e.0.0; column = e.0.1; value = e.1 }

abbrev pub keyed_cell : CellRow → (ℤ × ℤ) × Cell
keyed_cell row = ((row.docid, row.column), row.value)

pub content_cells : (documents : Documents) → flat_map document_rows documents ≡ map cell_row (rows_by numbered_cells documents)
content_cells [] = refl
content_cells (d ∷ ds) =
    let es = enumerate_from 0 d.1 in
    (λ i. sym (ap (map cell_row) (map-map (λ (c : ℤ × Cell). ((d.0, c.0), c.1)) (λ (c : ℕ × Cell). (pos c.0, c.1)) es) ∙ map-map cell_row (λ (c : ℕ × Cell). ((d.0, pos c.0), c.1)) es) i ++ content_cells ds i)
    ∙ sym (map-append cell_row (under d.0 (numbered_cells d.1)) (rows_by numbered_cells ds))

pub keyed_again : (rows : List ((ℤ × ℤ) × Cell)) → map keyed_cell (map cell_row rows) ≡ rows
keyed_again rows = map-map keyed_cell cell_row rows ∙ map-id rows

pub cells_are : AreRowsOf column_key_cmp (λ k. k.0) (rows_by numbered_cells) (one_by numbered_cells)
cells_are = record {
  sorted = λ documents h. sorted_by numbered_cells documents h (λ cells. sorted_numbered 0 cells);
  found = λ q documents h. find_by numbered_cells q documents h;
  none = λ q. refl;
}

-- ---- lists

abbrev pub one_list : List Column → Key → Option (List Cell) → Option (List Spot)
one_list columns q held = find key_cmp q (document_lists columns q.1 held)

pub lists_are : (columns : List Column) → AreRowsOf key_cmp (λ k. k.1) (index_lists_of columns) (one_list columns)
unfolding index_rows
lists_are columns = record {
  sorted = λ documents h. true_of _ (sorted_lists (entries (content_with columns documents)));
  found = λ q documents h. old_found columns documents q.1 q.0 (of_true _ h);
  none = λ q. refl;
}

-- ---- sizes

abbrev pub size_of : (ℤ × ℤ) × ℤ → SizeRow
size_of e = record { docid = e.0.0; column = e.0.1; n = e.1 }

pub sized_again : (rows : List ((ℤ × ℤ) × ℤ)) → sized (map size_of rows) ≡ rows
sized_again rows = map-map (λ (s : SizeRow). ((s.docid, s.column), s.n)) size_of rows ∙ map-id rows

pub sizes_again : (rows : List SizeRow) → map size_of (sized rows) ≡ rows
sizes_again rows = map-map size_of (λ (s : SizeRow). ((s.docid, s.column), s.n)) rows ∙ map-id rows

pub sized_once : (a b : List SizeRow) → sized a ≡ sized b → a ≡ b
sized_once a b same = sym (sizes_again a) ∙ ap (map size_of) same ∙ sizes_again b

-- how many tokens each column has, where it has any
abbrev has_tokens : List PlainToken → Bool
has_tokens ts = nat_lt 0 (length ts)

abbrev token_count : List PlainToken → ℤ
token_count ts = pos (length ts)

abbrev pub counts : List Column → List Cell → List (ℤ × ℤ)
counts columns cells = passed_from has_tokens token_count 0 (document_tokens columns cells)

kept_sizes : (docid : ℤ) (es : List (ℕ × List PlainToken)) → sized (map (size_row docid) es) ≡ under docid (map (λ (c : ℕ × List PlainToken). (pos c.0, token_count c.1)) es)
kept_sizes docid [] = refl
kept_sizes docid (e ∷ es) = ap (λ xs. ((docid, pos e.0), token_count e.1) ∷ xs) (kept_sizes docid es)

sizes_keyed : (columns : List Column) (documents : Documents) → sized (flat_map (document_sizes columns) documents) ≡ rows_by (counts columns) documents
sizes_keyed columns [] = refl
sizes_keyed columns (d ∷ ds) = simp (map-append, kept_sizes, sizes_keyed columns ds)

-- by rising docids the sizes stand in order already
pub sizes_ordered : (columns : List Column) (documents : Documents) → is_sorted int_cmp documents ≡ true → sizes_of columns documents ≡ rows_by (counts columns) documents
unfolding index_rows sizes
sizes_ordered columns documents h =
    let rows = rows_by (counts columns) documents in
    let sorted = sorted_by (counts columns) documents h (λ cells. sorted_passed has_tokens token_count 0 (document_tokens columns cells)) in
    ap (λ rs. all_put column_key_cmp rs []) (sizes_keyed columns documents)
    ∙ put_in_order column_key_cmp column_total column_exact rows sorted

pub stored_sizes : (columns : List Column) (documents : Documents) → is_sorted int_cmp documents ≡ true → sized (index_rows (content_with columns documents)).sizes ≡ sizes_of columns documents
unfolding index_rows sizes
stored_sizes columns documents h = sizes_keyed columns documents ∙ sym (sizes_ordered columns documents h)

pub sizes_are : (columns : List Column) → AreRowsOf column_key_cmp (λ k. k.0) (sizes_of columns) (one_by (counts columns))
sizes_are columns = record {
  sorted = λ documents h. ap (is_sorted column_key_cmp) (sizes_ordered columns documents h) ∙ sorted_by (counts columns) documents h (λ cells. sorted_passed has_tokens token_count 0 (document_tokens columns cells));
  found = λ q documents h. ap (find column_key_cmp q) (sizes_ordered columns documents h) ∙ find_by (counts columns) q documents h;
  none = λ q. refl;
}
