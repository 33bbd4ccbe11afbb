-- How texts show, and how tables are listed.
use Rattle.std.proofs.Common.{◌≡◌, IsUtf8, ℕ, Bool, true, false, cond, List, [], ◌∷◌, refl, ℤ, map, sym, ap, ◌∙◌, string_bytes, int_eq}
use Rattle.ft_store.proofs.Common.{is_utf8, where_key, map-map, StoreValue, ColumnKey, column_key_cmp, shown_column, shown_skip, shown_table}
use Rattle.ft_store.proofs.Common.{table_listed}
use Rattle.std.proofs.lemmas.Str.{IsUtf8-from_is_utf8, is_utf8-from_IsUtf8}
use Rattle.ft_store.specs.Rows.{text_in}
use Rattle.ft_values.specs.declared.rows.TabRow.{TabRow}

-- ---- texts that show

pub text_again : (stored : List ℕ) → IsUtf8 stored → text_in stored ≡ stored
text_again stored is = rw (is_utf8-from_IsUtf8 stored is) refl

pub text_unreadable : (stored : List ℕ) → ¬ (IsUtf8 stored) → text_in stored ≡ 0 ∷ []
text_unreadable stored none = go (is_utf8 stored) refl
  where
    go : (b : Bool) → is_utf8 stored ≡ b → cond b stored (0 ∷ []) ≡ 0 ∷ []
    go true is = absurd (none (IsUtf8-from_is_utf8 stored is))
    go false is = refl

-- ---- tables that are listed

numbers_back : (tab : ℤ) (xs : List ℤ) → map (λ s. s.0.1) (map (shown_skip tab) xs) ≡ xs
numbers_back tab [] = refl
numbers_back tab (x ∷ xs) = ap (λ l. x ∷ l) (numbers_back tab xs)

pub listed : (store : StoreValue) (id : ℤ) (t : TabRow) → t.id ≡ id → map (shown_column id) t.columns.items ≡ where_key column_key_cmp (λ k. int_eq id k.0) store.columns
    → map (shown_skip id) t.skipped.items ≡ where_key column_key_cmp (λ k. int_eq id k.0) store.skipped → shown_table t ≡ table_listed store (id, string_bytes t.name)
listed store id t same columns skipped =
    let names = sym (map-map (λ (e : ColumnKey × List ℕ). (e.0.1, e.1)) (shown_column id) t.columns.items) ∙ ap (map (λ (e : ColumnKey × List ℕ). (e.0.1, e.1))) columns in
    let numbers = sym (numbers_back id t.skipped.items) ∙ ap (map (λ (e : ColumnKey × Unit {0}). e.0.1)) skipped in
    λ i. record { id = same i; name = string_bytes t.name; columns = names i; skipped = numbers i }
