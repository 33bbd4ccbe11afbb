-- No two tables of a store have one name.
use Rattle.std.proofs.Common.{◌≡◌, ◌≢◌, ℕ, ℤ, Bool, true, false, ◌==◌, List, [], ◌∷◌, map, None, refl, sym, ap, ◌∙◌, arith, Ordering, Less, Equal, Greater, true≢false, T, int_cmp}
use Rattle.ft_store.proofs.Common.{AllByRecursion, list_any, str_to_ascii_lowercase, str_eq_ignore_ascii_case, eq_by_cmp, put, find, by_order}
use Rattle.ft_store.proofs.Common.{bytes_eq-Decides, nat_tests, Row, column, bytes, without_case, Trees, IsAscending, IsSound, AreInOrder}
use Rattle.ft_store.proofs.Common.{cell_key_cmp, list_key_cmp, column_key_cmp, name_cmp, AreNamedApart, int_cmp_total}
use Rattle.std.specs.Char.{to_ascii_lowercase}
use Rattle.ft_store.specs.Calls.{HasOwnRowids}
use Rattle.ft_store.specs.Tables.{store_schema}
use Rattle.ft_store.specs.Rows.{keyed, table_entry, column_entry, skip_entry, cell_entry, list_entry, size_entry, note_entry, value_of}
use Rattle.ft_values.specs.Names.{repeats_name}
use Rattle.ft_store.proofs.KeyedLemmas.{AreApart, some_first, itself, is_sorted-keyed}
use Rattle.ft_store.proofs.TypedLemmas.{tied_names, name_total, tied_ints, cell_key_total, tied_cell_keys, list_key_total, tied_list_keys}
use Rattle.ft_store.proofs.TypedLemmas.{column_key_total, tied_column_keys}
use Rattle.ft_store.proofs.StoreTables.{case_entry, cases_apart}

-- ---- what holds of all rows, and of each two

module _ {K X : Type 0} (R : K → K → Ordering) where
  all-put : (P : X → Type 0) (k : K) (v : X) (es : List (K × X)) → P v → AllByRecursion (λ e. P e.1) es → AllByRecursion (λ e. P e.1) (put R k v es)
  all-put P k v [] p all = (p, tt)
  all-put P k v (e ∷ es) p all = elim (R k e.0) as (λ o. AllByRecursion (λ e. P e.1) (by_order o ((k, v) ∷ e ∷ es) ((e.0, v) ∷ es) (e ∷ put R k v es))) [
    | Less ↦ (p, all)
    | Equal ↦ (p, all.1)
    | Greater ↦ (all.0, all-put P k v es p all.1)
  ]

  all-keyed : (P : X → Type 0) (es : List (K × X)) → AllByRecursion (λ e. P e.1) es → AllByRecursion (λ e. P e.1) (keyed R es)
  all-keyed P [] all = tt
  all-keyed P (e ∷ es) all = all-put P e.0 e.1 (keyed R es) all.0 (all-keyed P es all.1)

  module _ (Q : X → X → Type 0) (back : (a b : X) → Q a b → Q b a) where
    pairs-put : (k : K) (v : X) (es : List (K × X)) → AllByRecursion (λ e. Q v e.1) es → IsAscending (λ a b. Q a.1 b.1) es → IsAscending (λ a b. Q a.1 b.1) (put R k v es)
    pairs-put k v [] all up = (tt, tt)
    pairs-put k v (e ∷ es) all up = elim (R k e.0) as (λ o. IsAscending (λ a b. Q a.1 b.1) (by_order o ((k, v) ∷ e ∷ es) ((e.0, v) ∷ es) (e ∷ put R k v es))) [
      | Less ↦ (all, up)
      | Equal ↦ (all.1, up.1)
      | Greater ↦ (all-put (Q e.1) k v es (back v e.1 all.0) up.0, pairs-put k v es all.1 up.1)
    ]

    pairs-keyed : (es : List (K × X)) → IsAscending (λ a b. Q a.1 b.1) es → IsAscending (λ a b. Q a.1 b.1) (keyed R es)
    pairs-keyed [] up = tt
    pairs-keyed (e ∷ es) up = pairs-put e.0 e.1 (keyed R es) (all-keyed (Q e.1) es up.0) (pairs-keyed es up.1)

-- ---- names

abbrev Differ : List ℕ → List ℕ → Type 0
Differ a b = str_to_ascii_lowercase a ≢ str_to_ascii_lowercase b

same_zero : (x y : ℕ) → to_ascii_lowercase x ≡ to_ascii_lowercase y → (x == 0) ≡ (y == 0)
same_zero x y h = grind (arith, nat_tests)

zeros : (xs ys : List ℕ) → str_to_ascii_lowercase xs ≡ str_to_ascii_lowercase ys → map {B = ℕ} (λ _. 0) xs ≡ map {B = ℕ} (λ _. 0) ys
zeros [] [] h = refl
zeros [] (y ∷ ys) h = absurd cc
zeros (x ∷ xs) [] h = absurd cc
zeros (x ∷ xs) (y ∷ ys) h = ap (λ l. 0 ∷ l) (zeros xs ys cc)

-- names that are one without ASCII case are one to NOCASE
one_case : (xs ys : List ℕ) → str_to_ascii_lowercase xs ≡ str_to_ascii_lowercase ys → without_case xs ≡ without_case ys
one_case [] [] h = refl
one_case [] (y ∷ ys) h = absurd cc
one_case (x ∷ xs) [] h = absurd cc
one_case (x ∷ xs) (y ∷ ys) h =
    let first : to_ascii_lowercase x ≡ to_ascii_lowercase y = cc in
    let rest : str_to_ascii_lowercase xs ≡ str_to_ascii_lowercase ys = cc in
    rw (same_zero x y first, zeros xs ys rest, first, one_case xs ys rest) refl

none_all : (k : List ℕ) (rows : List Row) → find name_cmp k (map case_entry rows) ≡ None → AllByRecursion (λ r. eq_by_cmp name_cmp k (case_entry r).0 ≡ false) rows
none_all k [] none = tt
none_all k (r ∷ rows) none = let split = some_first (eq_by_cmp name_cmp k (case_entry r).0) tt (find name_cmp k (map case_entry rows)) none in (split.0, none_all k rows split.1)

differ_if : (a b : List ℕ) → eq_by_cmp name_cmp (without_case a) (without_case b) ≡ false → Differ a b
differ_if a b apart same = true≢false (sym (itself name_cmp name_total tied_names (without_case a)) ∙ ap (eq_by_cmp name_cmp (without_case a)) (one_case a b same) ∙ apart)

all_differ : (a : List ℕ) (rows : List Row) → AllByRecursion (λ r. eq_by_cmp name_cmp (without_case a) (case_entry r).0 ≡ false) rows → AllByRecursion (λ (e : ℤ × List ℕ). Differ a e.1) (map table_entry rows)
all_differ a [] all = tt
all_differ a (r ∷ rows) all = (differ_if a (bytes (column r 2)) all.0, all_differ a rows all.1)

pairs_differ : (rows : List Row) → AreApart name_cmp (map case_entry rows) → IsAscending (λ (a b : ℤ × List ℕ). Differ a.1 b.1) (map table_entry rows)
pairs_differ [] apart = tt
pairs_differ (r ∷ rows) apart = (all_differ (bytes (column r 2)) rows (none_all (without_case (bytes (column r 2))) rows apart.0), pairs_differ rows apart.1)

not_same : (a b : List ℕ) → Differ a b → str_eq_ignore_ascii_case a b ≡ false
not_same a b h = grind (arith, bytes_eq-Decides (str_to_ascii_lowercase a) (str_to_ascii_lowercase b), h)

none_same : (a : List ℕ) (es : List (ℤ × List ℕ)) → AllByRecursion (λ (e : ℤ × List ℕ). Differ a e.1) es → list_any (str_eq_ignore_ascii_case a) (map (λ e. e.1) es) ≡ false
none_same a [] all = refl
none_same a (e ∷ es) all = rw (not_same a e.1 all.0) (none_same a es all.1)

no_repeat : (es : List (ℤ × List ℕ)) → IsAscending (λ (a b : ℤ × List ℕ). Differ a.1 b.1) es → repeats_name (map (λ e. e.1) es) ≡ false
no_repeat [] up = refl
no_repeat (e ∷ es) up = rw (none_same e.1 es up.0) (no_repeat es up.1)

pub named_apart : (db : Trees) → IsSound store_schema db → HasOwnRowids (db 1) → AreNamedApart (value_of db)
named_apart db sound shaped =
    no_repeat (keyed int_cmp (map table_entry (db 1))) (pairs-keyed int_cmp Differ (λ a b h e. h (sym e)) (map table_entry (db 1)) (pairs_differ (db 1) (cases_apart db sound shaped)))

-- ---- order

holds : (b : Bool) → T b → b ≡ true
holds true t = refl
holds false t = absurd t

pub in_order : (db : Trees) → AreInOrder (value_of db)
in_order db = record {
  tables = holds _ (is_sorted-keyed int_cmp int_cmp_total tied_ints (map table_entry (db 1)));
  columns = holds _ (is_sorted-keyed column_key_cmp column_key_total tied_column_keys (map column_entry (db 3)));
  skipped = holds _ (is_sorted-keyed column_key_cmp column_key_total tied_column_keys (map skip_entry (db 13)));
  cells = holds _ (is_sorted-keyed cell_key_cmp cell_key_total tied_cell_keys (map cell_entry (db 5)));
  lists = holds _ (is_sorted-keyed list_key_cmp list_key_total tied_list_keys (map list_entry (db 7)));
  sizes = holds _ (is_sorted-keyed cell_key_cmp cell_key_total tied_cell_keys (map size_entry (db 9)));
  noted = holds _ (is_sorted-keyed name_cmp name_total tied_names (map note_entry (db 11)));
}
