-- How the steps of a change are put together.
use Rattle.std.proofs.Common.{◌≡◌, ℕ, ◌+◌, ◌<◌, ℤ, pos, not, cond, List, [], ◌∷◌, ◌++◌, map, length, get_or, take, None, refl, sym, ap, ◌∙◌, subst, arith, IsTrue, is_eq, unwrap_or, string_bytes, String, int_cmp, int_eq, length-take-le}
use Rattle.ft_store.proofs.Common.{Global, enumerate_from, put, where_key, find, find-where_key, tied_itself, int_cmp_total, take_more, map-append}
use Rattle.ft_store.proofs.Common.{length-map, State, ColumnKey, column_key_cmp, StoreValue, with_columns, with_skipped}
use Rattle.ft_values.specs.declared.rows.Spot.{Spot}
use Rattle.ft_rows.specs.Packed.{CanPack, packed, unpacked}
use Rattle.ft_store.specs.Rows.{value_of}
use Rattle.ft_store.specs.Calls.{IsStore, Steps}
use Rattle.ft_rows.proofs.{packed_is_read}
use Rattle.ft_store.proofs.KeyedLemmas.{respects}
use Rattle.ft_store.proofs.TypedLemmas.{tied_ints}

pub steps_then : (a b c : State) (v w : StoreValue) → Steps a b v → Steps b c w → Steps a c w
steps_then a b c v w one two = record {
  store = two.store;
  is = two.is;
  shown = record { was_open = one.shown.was_open; is_open = two.shown.is_open; now_is = refl; committed_is = two.shown.committed_is ∙ one.shown.committed_is; mode = two.shown.mode };
}

-- a step that goes by the value before it
pub then_step : (a b c : State) (v : StoreValue) (f : StoreValue → StoreValue) → Steps a b v → Steps b c (f (value_of b.now.trees)) → Steps a c (f v)
then_step a b c v f one two = steps_then a b c v (f v) one (subst (λ x. Steps b c (f x)) one.is two)

pub no_step : (a : State) → IsTrue a.in_transaction → IsTrue a.is_open → IsStore a.now → Steps a a (value_of a.now.trees)
no_step a inside is_open store = record { store = store; is = refl; shown = record { was_open = is_open; is_open = is_open; now_is = refl; committed_is = refl; mode = inside } }

-- ---- a table that is added

pub free_table : (a b : State) (v : StoreValue) (tab : ℤ) (ts : List (ℤ × List ℕ)) → Steps a b v → v.tables ≡ where_key int_cmp (λ k. not (int_eq tab k)) ts → find int_cmp tab (value_of b.now.trees).tables ≡ None
free_table a b v tab ts one bare =
    ap (λ (x : StoreValue). find int_cmp tab x.tables) one.is ∙ ap (find int_cmp tab) bare
    ∙ find-where_key int_cmp (λ k. not (int_eq tab k)) tab (respects int_cmp int_cmp_total tied_ints (λ k. not (int_eq tab k)) tab) ts
    ∙ ap (λ b. cond (not b) (find int_cmp tab ts) None) (ap is_eq (tied_itself int_cmp_total tab))

with_columns-append : (tab : ℤ) (xs : List (ℕ × List ℕ)) (c : ℕ × List ℕ) (columns : List (ColumnKey × List ℕ)) → with_columns tab (xs ++ c ∷ []) columns ≡ put column_key_cmp (tab, pos c.0) c.1 (with_columns tab xs columns)
with_columns-append tab [] c columns = refl
with_columns-append tab (x ∷ xs) c columns = with_columns-append tab xs c _

enumerate_more : (n : ℕ) (xs : List (List ℕ)) (x : List ℕ) → enumerate_from n (xs ++ x ∷ []) ≡ enumerate_from n xs ++ (n + length xs, x) ∷ []
enumerate_more n [] x = let e : n ≡ n + 0 = omega arith in ap (λ k. (k, x) ∷ []) e
enumerate_more n (y ∷ xs) x = ap (λ l. (n, y) ∷ l) (enumerate_more (n + 1) xs x ∙ (let e : n + 1 + length xs ≡ n + length (y ∷ xs) = omega arith in ap (λ k. enumerate_from (n + 1) xs ++ (k, x) ∷ []) e))

one_more_column : (tab : ℤ) (xs : List (List ℕ)) (x : List ℕ) (columns : List (ColumnKey × List ℕ))
    → with_columns tab (enumerate_from 0 (xs ++ x ∷ [])) columns ≡ put column_key_cmp (tab, pos (length xs)) x (with_columns tab (enumerate_from 0 xs) columns)
one_more_column tab xs x columns = ap (λ l. with_columns tab l columns) (enumerate_more 0 xs x ∙ (let e : 0 + length xs ≡ length xs = omega arith in ap (λ k. enumerate_from 0 xs ++ (k, x) ∷ []) e)) ∙ with_columns-append tab (enumerate_from 0 xs) (length xs, x) columns

one_more_skip : (tab : ℤ) (xs : List ℤ) (x : ℤ) (skipped : List (ColumnKey × Unit {0})) → with_skipped tab (xs ++ x ∷ []) skipped ≡ put column_key_cmp (tab, x) tt (with_skipped tab xs skipped)
one_more_skip tab [] x skipped = refl
one_more_skip tab (y ∷ xs) x skipped = one_more_skip tab xs x _

-- places that can be packed are read back
pub packed_back : (spots : List Spot) → CanPack spots → unwrap_or (unpacked (packed spots)) [] ≡ spots
packed_back spots can = ap (λ o. unwrap_or o []) (packed_is_read spots can)

-- ---- the loops over the columns of a table

pub skip_more : (tab x : ℤ) (skipped : List ℤ) (i : ℕ) → i < length skipped → x ≡ get_or skipped i (pos 0) → (before : List (ColumnKey × Unit {0}))
    → put column_key_cmp (tab, x) tt (with_skipped tab (take i skipped) before) ≡ with_skipped tab (take (i + 1) skipped) before
skip_more tab x skipped i inside is before =
    sym (one_more_skip tab (take i skipped) x before) ∙ ap (λ l. with_skipped tab l before) (ap (λ y. take i skipped ++ y ∷ []) is ∙ sym (take_more skipped i (pos 0) inside))

pub column_more : (tab at : ℤ) (names : List (String Global)) (i : ℕ) (name : String Global) → i < length names → name ≡ get_or names i name → at ≡ pos i → (before : List (ColumnKey × List ℕ))
    → put column_key_cmp (tab, at) (string_bytes name) (with_columns tab (enumerate_from 0 (map string_bytes (take i names))) before) ≡ with_columns tab (enumerate_from 0 (map string_bytes (take (i + 1) names))) before
column_more tab at names i name inside is number before =
    let xs = map string_bytes (take i names) in
    let more : xs ++ string_bytes name ∷ [] ≡ map string_bytes (take (i + 1) names) = sym (map-append string_bytes (take i names) (name ∷ [])) ∙ ap (map string_bytes) (ap (λ y. take i names ++ y ∷ []) is ∙ sym (take_more names i name inside)) in
    let len : length xs ≡ i = length-map (take i names) string_bytes ∙ length-take-le i names (omega (arith, inside)) in
    ap (λ k. put column_key_cmp (tab, k) (string_bytes name) (with_columns tab (enumerate_from 0 xs) before)) (number ∙ ap pos (sym len))
    ∙ sym (one_more_column tab xs (string_bytes name) before) ∙ ap (λ l. with_columns tab (enumerate_from 0 l) before) more
