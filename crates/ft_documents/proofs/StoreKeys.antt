-- The keys of a store's rows, whose orders decide, and the rows of one table under keys without it.
use Rattle.std.proofs.Common.{◌≡◌, true, false, cond, not, List, [], ◌∷◌, map, Some, ℤ, refl, sym, ap, ◌∙◌, filter, Ordering, int_cmp, int_eq, is_eq, is_lt, Equal}
use Rattle.std.proofs.lemmas.Cmp.{on_total, then_total, nat_list_cmp_total}
use Rattle.ft_content.proofs.{key_cmp_total, key_cmp_exact}
use Rattle.ft_documents.proofs.Common.{eq_by_cmp, ordering_then, IsTotalOrder, int_cmp_total, tied_itself, put, find, below_all, is_sorted, is_sorted-put, find-put, same_entries, and_parts, and_from, CmpEqualImpliesEq, exact_signed, exact_bytes, without_key, CellKey, ListKey, cell_key_cmp, list_key_cmp, column_key_cmp, key_cmp, all_put}
use Rattle.ft_documents.proofs.KeyedRows.{true_of, of_true, tie, then_equal, then_apart, all_dropped}

-- ---- the rows of one table, under keys without the table

-- Keys are ordered by their table and then by the rest.
pub record TableKeys {A : Type 0} (R : ℤ × A × ℤ → ℤ × A × ℤ → Ordering) (S : A × ℤ → A × ℤ → Ordering) : Type 0 where
  pub splits : (x y : ℤ × A × ℤ) → R x y ≡ ordering_then (int_cmp x.0 y.0) (S (x.1, x.2) (y.1, y.2))
  pub total : IsTotalOrder R
  pub rest_total : IsTotalOrder S
  pub exact : CmpEqualImpliesEq R
  pub rest_exact : CmpEqualImpliesEq S

abbrev Row : Type 0 → Type 0 → Type 0
Row A V = (ℤ × A × ℤ) × V

module _ {A V : Type 0} {R : ℤ × A × ℤ → ℤ × A × ℤ → Ordering} {S : A × ℤ → A × ℤ → Ordering} (keys : TableKeys R S) where
  abbrev bare : Row A V → (A × ℤ) × V
  bare e = ((e.0.1, e.0.2), e.1)

  abbrev pub own : ℤ → List (Row A V) → List ((A × ℤ) × V)
  own tab rows = map bare (filter (λ (e : Row A V). int_eq tab e.0.0) rows)

  pub find_own : (k : ℤ × A × ℤ) (rows : List (Row A V)) → find S (k.1, k.2) (own k.0 rows) ≡ find R k rows
  find_own k [] = refl
  find_own k (e ∷ es) =
      let tab = k.0 in
      let kept = filter (λ (e : Row A V). int_eq tab e.0.0) es in
      let rest = find_own k es in
      elim (int_eq tab e.0.0) as (λ b. int_eq tab e.0.0 ≡ b → find S (k.1, k.2) (map bare (cond b (e ∷ kept) kept)) ≡ find R k (e ∷ es)) [
        | true ↦ λ same. ap (cond (eq_by_cmp S (k.1, k.2) (e.0.1, e.0.2)) (Some e.1)) rest
            ∙ ap (λ o. cond (is_eq o) (Some e.1) (find R k es)) (sym (keys.splits k e.0 ∙ then_equal (int_cmp tab e.0.0) (S (k.1, k.2) (e.0.1, e.0.2)) same))
        | false ↦ λ apart. rest ∙ ap (λ b. cond b (Some e.1) (find R k es)) (sym (ap is_eq (keys.splits k e.0) ∙ then_apart (int_cmp tab e.0.0) (S (k.1, k.2) (e.0.1, e.0.2)) apart))
      ] refl

  pub find_joined : (tab : ℤ) (q : A × ℤ) (rows : List (Row A V)) → find S q (own tab rows) ≡ find R (tab, q.0, q.1) rows
  find_joined tab q rows = find_own (tab, q.0, q.1) rows

  below_own : (tab : ℤ) (x : ℤ × A × ℤ) (rows : List (Row A V)) → int_eq tab x.0 ≡ true → below_all R x rows ≡ true → below_all S (x.1, x.2) (own tab rows) ≡ true
  below_own tab x [] is h = refl
  below_own tab x (e ∷ es) is h =
      let parts = and_parts (is_lt (R x e.0)) (below_all R x es) h in
      let kept = filter (λ (e : Row A V). int_eq tab e.0.0) es in
      let rest = below_own tab x es is parts.1 in
      elim (int_eq tab e.0.0) as (λ b. int_eq tab e.0.0 ≡ b → below_all S (x.1, x.2) (map bare (cond b (e ∷ kept) kept)) ≡ true) [
        | true ↦ λ same. and_from (is_lt (S (x.1, x.2) (e.0.1, e.0.2))) (below_all S (x.1, x.2) (own tab es))
            (ap is_lt (sym (keys.splits x e.0 ∙ then_equal (int_cmp x.0 e.0.0) (S (x.1, x.2) (e.0.1, e.0.2)) (ap (λ t. int_eq t e.0.0) (sym (exact_signed tab x.0 (tie _ is))) ∙ same))) ∙ parts.0) rest
        | false ↦ λ _. rest
      ] refl

  pub sorted_own : (tab : ℤ) (rows : List (Row A V)) → is_sorted R rows ≡ true → is_sorted S (own tab rows) ≡ true
  sorted_own tab [] h = refl
  sorted_own tab (e ∷ es) h =
      let parts = and_parts (below_all R e.0 es) (is_sorted R es) h in
      let kept = filter (λ (e : Row A V). int_eq tab e.0.0) es in
      let rest = sorted_own tab es parts.1 in
      elim (int_eq tab e.0.0) as (λ b. int_eq tab e.0.0 ≡ b → is_sorted S (map bare (cond b (e ∷ kept) kept)) ≡ true) [
        | true ↦ λ same. and_from (below_all S (e.0.1, e.0.2) (own tab es)) (is_sorted S (own tab es)) (below_own tab e.0 es same parts.0) rest
        | false ↦ λ _. rest
      ] refl

  pub own_put : (tab : ℤ) (q : A × ℤ) (v : V) (rows : List (Row A V)) → is_sorted R rows ≡ true → own tab (put R (tab, q.0, q.1) v rows) ≡ put S q v (own tab rows)
  own_put tab q v rows h =
      same_entries S keys.rest_total keys.rest_exact (own tab (put R (tab, q.0, q.1) v rows)) (put S q v (own tab rows))
      (of_true _ (sorted_own tab (put R (tab, q.0, q.1) v rows) (true_of _ (is_sorted-put R keys.total (tab, q.0, q.1) v rows (of_true _ h)))))
      (is_sorted-put S keys.rest_total q v (own tab rows) (of_true _ (sorted_own tab rows h)))
      (λ p. find_joined tab p (put R (tab, q.0, q.1) v rows) ∙ find-put R keys.total (tab, p.0, p.1) (tab, q.0, q.1) v rows
      ∙ (λ i. cond ((ap is_eq (keys.splits (tab, p.0, p.1) (tab, q.0, q.1)) ∙ ap (λ o. is_eq (ordering_then o (S p q))) (tied_itself int_cmp_total tab)) i) (Some v) (sym (find_joined tab p rows) i))
      ∙ sym (find-put S keys.rest_total p q v (own tab rows)))

  pub own_drop : (tab : ℤ) (q : A × ℤ) (rows : List (Row A V)) → own tab (without_key R (tab, q.0, q.1) rows) ≡ without_key S q (own tab rows)
  own_drop tab q [] = refl
  own_drop tab q (e ∷ es) =
      let left = without_key R (tab, q.0, q.1) es in
      let kept = filter (λ (e : Row A V). int_eq tab e.0.0) es in
      let kept_left = filter (λ (e : Row A V). int_eq tab e.0.0) left in
      let split : R (tab, q.0, q.1) e.0 ≡ ordering_then (int_cmp tab e.0.0) (S q (e.0.1, e.0.2)) = keys.splits (tab, q.0, q.1) e.0 in
      let here = eq_by_cmp S q (e.0.1, e.0.2) in
      elim (int_eq tab e.0.0) as (λ b. int_eq tab e.0.0 ≡ b → own tab (cond (not (eq_by_cmp R (tab, q.0, q.1) e.0)) (e ∷ left) left) ≡ without_key S q (map bare (cond b (e ∷ kept) kept))) [
        | true ↦ λ same. ap (λ o. own tab (cond (not (is_eq o)) (e ∷ left) left)) (split ∙ then_equal (int_cmp tab e.0.0) (S q (e.0.1, e.0.2)) same)
            ∙ elim here as (λ c. own tab (cond (not c) (e ∷ left) left) ≡ cond (not c) (bare e ∷ without_key S q (own tab es)) (without_key S q (own tab es))) [
              | true ↦ own_drop tab q es
              | false ↦ ap (λ b. map bare (cond b (e ∷ kept_left) kept_left)) same ∙ ap (λ ls. bare e ∷ ls) (own_drop tab q es)
            ]
        | false ↦ λ apart. ap (λ b. own tab (cond (not b) (e ∷ left) left)) (ap is_eq split ∙ then_apart (int_cmp tab e.0.0) (S q (e.0.1, e.0.2)) apart)
            ∙ ap (λ b. map bare (cond b (e ∷ kept_left) kept_left)) apart ∙ own_drop tab q es
      ] refl

  -- ---- many at once

  abbrev pub joined : ℤ → List ((A × ℤ) × V) → List (Row A V)
  joined tab es = map (λ (e : (A × ℤ) × V). ((tab, e.0.0, e.0.1), e.1)) es

  pub own_all_put : (tab : ℤ) (es : List ((A × ℤ) × V)) (rows : List (Row A V)) → is_sorted R rows ≡ true → own tab (all_put R (joined tab es) rows) ≡ all_put S es (own tab rows)
  own_all_put tab [] rows h = refl
  own_all_put tab (e ∷ es) rows h = own_all_put tab es (put R (tab, e.0.0, e.0.1) e.1 rows) (true_of _ (is_sorted-put R keys.total (tab, e.0.0, e.0.1) e.1 rows (of_true _ h))) ∙ ap (all_put S es) (own_put tab e.0 e.1 rows h)

  pub own_all_dropped : (tab : ℤ) (es : List ((A × ℤ) × V)) (rows : List (Row A V)) → own tab (all_dropped R keys.total keys.exact (joined tab es) rows) ≡ all_dropped S keys.rest_total keys.rest_exact es (own tab rows)
  own_all_dropped tab [] rows = refl
  own_all_dropped tab (e ∷ es) rows = own_all_dropped tab es (without_key R (tab, e.0.0, e.0.1) rows) ∙ ap (all_dropped S keys.rest_total keys.rest_exact es) (own_drop tab e.0 rows)

-- ---- the orders of keys decide, and a table's keys are ordered by the rest

both_equal : (a b : Ordering) → ordering_then a b ≡ Equal → (a ≡ Equal) × (b ≡ Equal)
both_equal Equal b e = (refl, e)
both_equal _ b e = absurd (let no = e in cc)

pub column_exact : CmpEqualImpliesEq column_key_cmp
column_exact x y e = let k = both_equal _ _ e in λ i. (exact_signed x.0 y.0 k.0 i, exact_signed x.1 y.1 k.1 i)

pub cell_exact : CmpEqualImpliesEq cell_key_cmp
cell_exact x y e = let k = both_equal _ _ e in let l = both_equal _ _ k.1 in λ i. (exact_signed x.0 y.0 k.0 i, exact_signed x.1 y.1 l.0 i, exact_signed x.2 y.2 l.1 i)

pub list_exact : CmpEqualImpliesEq list_key_cmp
list_exact x y e = let k = both_equal _ _ e in let l = both_equal _ _ k.1 in λ i. (exact_signed x.0 y.0 k.0 i, exact_bytes x.1 y.1 l.0 i, exact_signed x.2 y.2 l.1 i)

pub list_total : IsTotalOrder list_key_cmp
list_total = then_total (on_total (λ (k : ListKey). k.0) int_cmp_total) (then_total (on_total (λ (k : ListKey). k.1) nat_list_cmp_total) (on_total (λ (k : ListKey). k.2) int_cmp_total))

pub column_total : IsTotalOrder column_key_cmp
column_total = then_total (on_total (λ (k : ℤ × ℤ). k.0) int_cmp_total) (on_total (λ (k : ℤ × ℤ). k.1) int_cmp_total)

pub cell_total : IsTotalOrder cell_key_cmp
cell_total = then_total (on_total (λ (k : CellKey). k.0) int_cmp_total) (then_total (on_total (λ (k : CellKey). k.1) int_cmp_total) (on_total (λ (k : CellKey). k.2) int_cmp_total))

abbrev pub list_keys : TableKeys list_key_cmp key_cmp
list_keys = record { splits = λ x y. refl; total = list_total; rest_total = key_cmp_total; exact = list_exact; rest_exact = key_cmp_exact }

abbrev pub cell_keys : TableKeys cell_key_cmp column_key_cmp
cell_keys = record { splits = λ x y. refl; total = cell_total; rest_total = column_total; exact = cell_exact; rest_exact = column_exact }
