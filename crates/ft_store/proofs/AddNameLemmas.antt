-- Why the row of a new table's name is refused.
use Rattle.std.proofs.Common.{◌≡◌, ◌∙◌, ◌∷◌, ◌⊎◌, ◌^◌, ℕ, ℤ, pos, negsuc, Bool, true, false, not, List, [], length, map, cond, Some, None, Ok, inl, inr, refl, sym, ap, subst, arith, IsTrue, true≢false, FitsSigned, w64, Ordering, Equal, ◌&&◌, is_eq, int_cmp, int_eq, ltb-false}
use Rattle.ft_store.proofs.Common.{AllByRecursion, eq_by_cmp, IsTotalOrder, put, find, where_key, find-where_key, ints, int_cmp_total, and_parts}
use Rattle.ft_store.proofs.Common.{both_ways, true_from_ne_false, Null, Int, Text, Row, column, value_cmp, first_key, value_cmp-Int, Trees, with_tree}
use Rattle.ft_store.proofs.Common.{put_row, rowid, fits_i64, State, ExecutesInside, Error, Datatype, NotNull, Check, PrimaryKey, Unique, ForeignKey}
use Rattle.ft_store.proofs.Common.{Enforced, agree, clashes, differ, Has, are_unique, is_taken, are_fresh, IsRefused, IsOversized, Refusal, Violates}
use Rattle.ft_store.proofs.Common.{Mismatch, NoRowid, BadReference, TooDeep, unique_kept, some_has, all_has, put_has, IsSound, int_is_number}
use Rattle.ft_store.proofs.Common.{zero_is_number}
use Rattle.sqlite_sql.specs.Catalog.{entry_of}
use Rattle.ft_store.specs.Tables.{store_schema, tab_table, case_order}
use Rattle.ft_store.specs.Rows.{table_entry, value_of}
use Rattle.ft_store.specs.Calls.{IsStore, HasOwnRowids, Steps}
use Rattle.ft_store.proofs.StoreTables.{added, names_apart, turned_case}
use Rattle.ft_store.proofs.StoreTables as tables
use Rattle.ft_store.specs.Puts.{IsGrown, AreGrown, IsTooBig, IsOthers}
use Rattle.ft_store.proofs.Texts.{add_name_text, add_name_terms, add_name_means}
use Rattle.ft_store.proofs.TypedLemmas.{IsNameRow, are_names, int_is, tied_ints, tied_names, IsInt}
use Rattle.ft_store.proofs.AnswerLemmas.{sound_of}
use Rattle.ft_store.proofs.KeyedLemmas.{AreApart, find-keyed, some_first, equal_from, itself, apart_back, respects}
use Rattle.ft_store.proofs.ChangeLemmas.{inserts, cast_null, cast_int}
use Rattle.ft_store.proofs.CantLemmas.{grown_same}
use Rattle.ft_store.proofs.AddedLemmas.{RunBlamed, oversized_why, CantAdd, put_in, made_rows, insert_blamed, turns, never_bad, same_not_differ}
use Rattle.ft_store.proofs.AddedLemmas.{too_big}

-- ---- entries under keys that are apart

found_has : {K X : Type 0} (R : K → K → Ordering) (total : IsTotalOrder R) (tie : (x y : K) → R x y ≡ Equal → x ≡ y) (es : List (K × X)) (e : K × X) → AreApart R es → Has es e → find R e.0 es ≡ Some e.1
found_has R total tie [] e apart h = absurd h
found_has R total tie (f ∷ es) e apart (inl same) = subst (λ x. find R x.0 (f ∷ es) ≡ Some x.1) (sym same) (ap (λ b. cond b (Some f.1) (find R f.0 es)) (itself R total tie f.0))
found_has R total tie (f ∷ es) e apart (inr later) = go (eq_by_cmp R e.0 f.0) refl (found_has R total tie es e apart.1 later)
  where
    go : (b : Bool) → eq_by_cmp R e.0 f.0 ≡ b → find R e.0 es ≡ Some e.1 → find R e.0 (f ∷ es) ≡ Some e.1
    go false is there = ap (λ b. cond b (Some f.1) (find R e.0 es)) is ∙ there
    go true is there = absurd (let gone : find R e.0 es ≡ None = subst (λ k. find R k es ≡ None) (sym (tie e.0 f.0 (equal_from _ is))) apart.0 in let no : Some e.1 ≡ None = sym there ∙ gone in cc)

mapped_has : {X Y : Type 0} (f : X → Y) (xs : List X) (x : X) → Has xs x → Has (map f xs) (f x)
mapped_has f [] x h = absurd h
mapped_has f (y ∷ xs) x (inl same) = inl (ap f same)
mapped_has f (y ∷ xs) x (inr later) = inr (mapped_has f xs x later)

-- ---- a table's number that is free

fits : (z : ℤ) → FitsSigned w64 z → fits_i64 z ≡ true
fits (pos n) h = true_from_ne_false _ (λ low. let high = ltb-false n (2 ^ 63) low in omega (arith, ints, h, high))
fits (negsuc n) h = true_from_ne_false _ (λ low. let high = ltb-false n (2 ^ 63) low in omega (arith, ints, h, high))

not_taken : (tab : ℤ) (rest : Row) (rows : List Row) → AllByRecursion IsInt rows → find int_cmp tab (map table_entry rows) ≡ None → is_taken rows (Int tab ∷ rest) ≡ false
not_taken tab rest [] keyed none = refl
not_taken tab rest (r ∷ rows) keyed none =
    let split = some_first (eq_by_cmp int_cmp tab (table_entry r).0) (table_entry r).1 (find int_cmp tab (map table_entry rows)) none in
    let other = apart_back int_cmp int_cmp_total tied_ints tab (table_entry r).0 split.0 in
    let here : is_eq (value_cmp (rowid r) (Int tab)) ≡ false = ap (λ v. is_eq (value_cmp v (Int tab))) (int_is _ keyed.0) ∙ ap is_eq (value_cmp-Int _ _) ∙ other in
    rw here (not_taken tab rest rows keyed.1 split.1)

-- ---- the row of a name

abbrev name_row : ℤ → List ℕ → Row
name_row tab name = Int tab ∷ Null ∷ Text name ∷ []

name_made : (tab : ℤ) (name : List ℕ) → made_rows (tab_table 1) add_name_terms 3 (Int tab ∷ Text name ∷ []) ≡ name_row tab name ∷ []
name_made tab name = rw (cast_int tab, cast_null) refl

-- the name stands under the number, and no table whose rowids the database gives is written
pub adds_name : (tab : ℤ) (name : List ℕ) (old new : State) (count : ℕ) → IsStore old.now → find int_cmp tab (value_of old.now.trees).tables ≡ None → ExecutesInside 0 add_name_text (Int tab ∷ Text name ∷ []) old new (Ok count)
    → Steps old new (record (value_of old.now.trees) { tables = put int_cmp tab name (value_of old.now.trees).tables }) × AreGrown 0 old.now.trees new.now.trees
adds_name tab name old new count kept free ran =
    let made = inserts old new add_name_text (Int tab ∷ Text name ∷ []) 1 (tab_table 1) add_name_terms 3 (name_row tab name) count kept.schema add_name_means.is add_name_means.plain refl (rw (cast_int tab, cast_null) refl) ran.0 in
    let o = made.0.others in (
      added old new kept ran.1 tables.names (name_row tab name) refl made free,
      (go 3 (o.1.1.0 (λ e. omega (arith, e))), (go 5 (o.1.1.1.0 (λ e. omega (arith, e))), (go 7 (o.1.1.1.1.0 (λ e. omega (arith, e))), (go 9 (o.1.1.1.1.1.0 (λ e. omega (arith, e))), (go 11 (o.1.1.1.1.1.1.0 (λ e. omega (arith, e))), (go 13 (o.1.1.1.1.1.1.1.0 (λ e. omega (arith, e))), tt)))))),
    )
  where
    go : (t : ℕ) → new.now.trees t ≡ old.now.trees t → IsGrown 0 (old.now.trees t) (new.now.trees t)
    go t same = grown_same 0 _ _ same

name_big : (tab : ℤ) (name : List ℕ) → IsOversized store_schema (tab_table 1) (name_row tab name) → IsTooBig 3 (length name)
name_big tab name big =
    let row = name_row tab name in
    let all = too_big row (entry_of (2 ∷ []) row) (int_is_number tab, (zero_is_number, (zero_is_number, tt))) (zero_is_number, (int_is_number tab, tt)) (omega arith, omega arith) (omega arith, omega arith) (omega arith)
    (oversized_why (tab_table 1) (2 ∷ []) ((λ e. refl), ((λ e. absurd (omega (arith, e))), ((λ e. absurd (omega (arith, e))), ((λ e. absurd (omega (arith, e))), ((λ e. absurd (omega (arith, e))), ((λ e. absurd (omega (arith, e))), ((λ e. absurd (omega (arith, e))), tt))))))) refl refl row big) in
    omega (arith, all)

module _ (tab : ℤ) (name : List ℕ) (db : Trees) (sound : IsSound store_schema db) (own : HasOwnRowids (db 1)) (free : find int_cmp tab (value_of db).tables ≡ None) where
  free_row : find int_cmp tab (map table_entry (db 1)) ≡ None
  free_row = sym (find-keyed int_cmp int_cmp_total tied_ints tab (map table_entry (db 1))) ∙ free

  fresh : are_fresh (db 1) (name_row tab name ∷ []) ≡ true
  fresh = rw (not_taken tab (Null ∷ Text name ∷ []) (db 1) own.1 free_row) refl

  -- another row has the name
  others_name : (r : Row) → Has (db 1) r → IsNameRow r → agree case_order (2 ∷ []) r (2 ∷ []) (name_row tab name) ≡ true → IsOthers tab name (value_of db).tables
  unfolding first_key
  others_name r has typed agrees =
      let there = find-keyed int_cmp int_cmp_total tied_ints (table_entry r).0 (map table_entry (db 1)) ∙ found_has int_cmp int_cmp_total tied_ints (map table_entry (db 1)) (table_entry r) (names_apart db own) (mapped_has table_entry (db 1) r has) in
      record {
        other = (table_entry r).0;
        other_name = (table_entry r).1;
        there = there;
        apart = λ same. (let no : Some (table_entry r).1 ≡ None = sym there ∙ ap (λ k. find int_cmp k (value_of db).tables) same ∙ free in cc);
        same = sym (tied_names _ _ (equal_from _ (sym (turned_case (column r 2) (Text name) _ name typed.name refl) ∙ (and_parts _ _ agrees).0)));
      }

  twice : are_unique store_schema.indexes (with_tree db 1 (put_row (name_row tab name) (db 1))) (tab_table 1) (name_row tab name ∷ []) ≡ false → IsOthers tab name (value_of db).tables
  twice bad = go (clashes case_order (2 ∷ []) (put_row (name_row tab name) (db 1)) (name_row tab name)) refl
    where
      go : (b : Bool) → clashes case_order (2 ∷ []) (put_row (name_row tab name) (db 1)) (name_row tab name) ≡ b → IsOthers tab name (value_of db).tables
      go false is = absurd (true≢false (rw is at bad))
      go true is =
          let other = some_has _ _ is in
          let parts = and_parts _ _ other.2 in
          elim (put_has (name_row tab name) (db 1) other.0 other.1) [
            | inl same ↦ absurd (both_ways _ (subst (λ r. differ (rowid r) (Int tab) ≡ false) (sym same) (same_not_differ (Int tab) tab refl)) parts.1)
            | inr before ↦ others_name other.0 before (all_has IsNameRow (db 1) other.0 (are_names db sound own) before) parts.0
          ]

  name_refused : FitsSigned w64 tab → (why : Refusal) → IsRefused store_schema Enforced db (put_in (tab_table 1) db (name_row tab name ∷ [])) why → IsOthers tab name (value_of db).tables
  name_refused fit (Violates Datatype) h = absurd (true≢false h)
  name_refused fit (Violates NotNull) h = absurd (true≢false h)
  name_refused fit (Violates Check) h = absurd (true≢false h)
  name_refused fit (Violates PrimaryKey) h = absurd (both_ways _ h fresh)
  name_refused fit (Violates Unique) h = go (are_unique store_schema.indexes (with_tree db 1 (put_row (name_row tab name) (db 1))) (tab_table 1) (name_row tab name ∷ [])) refl
    where
      go : (b : Bool) → are_unique store_schema.indexes (with_tree db 1 (put_row (name_row tab name) (db 1))) (tab_table 1) (name_row tab name ∷ []) ≡ b → IsOthers tab name (value_of db).tables
      go true is = absurd (h (unique_kept store_schema db (with_tree db 1 (put_row (name_row tab name) (db 1))) (tab_table 1) _ _ (name_row tab name ∷ []) (turns (tab_table 1) (inr (inl refl)) db (name_row tab name ∷ []) fresh) is (sound.obeys.rules Unique)))
      go false is = twice is
  name_refused fit (Violates ForeignKey) h = absurd h
  name_refused fit Mismatch h = absurd (true≢false h)
  name_refused fit NoRowid h = absurd (true≢false (sym (fits tab fit) ∙ (let first = and_parts_false (fits_i64 tab) h in first)))
    where
      and_parts_false : (b : Bool) → (b && true) ≡ false → b ≡ false
      and_parts_false true bad = bad
      and_parts_false false bad = refl
  name_refused fit BadReference h = absurd (never_bad true h)
  name_refused fit TooDeep h = absurd h

  name_why : FitsSigned w64 tab → (e : Error) → CantAdd e (tab_table 1) db (name_row tab name ∷ []) → IsTooBig 3 (length name) ⊎ IsOthers tab name (value_of db).tables
  name_why fit e (inl refused) = inr (name_refused fit refused.0 refused.1)
  name_why fit e (inr (row, inl same, big)) = inl (name_big tab name (subst (IsOversized store_schema (tab_table 1)) same big))
  name_why fit e (inr (row, inr none, big)) = absurd none

pub add_name_why : (tab : ℤ) (name : List ℕ) (old new : State) → FitsSigned w64 tab → (IsTrue old.is_open → find int_cmp tab (value_of old.now.trees).tables ≡ None)
    → RunBlamed old new add_name_text (Int tab ∷ Text name ∷ []) (IsTooBig 3 (length name) ⊎ IsOthers tab name (value_of old.now.trees).tables)
add_name_why tab name old new fit free store (e, other, ran) =
    elim (insert_blamed (tab_table 1) old new add_name_text (Int tab ∷ Text name ∷ []) 1 add_name_terms 3 add_name_means.is add_name_means.plain add_name_means.whole refl (λ db x h. elim h [ inl bad ↦ true≢false bad.1 | inr limit ↦ true≢false (sym limit.1) ]) store e other ran) [
      | inl blamed ↦ inl blamed
      | inr cant ↦
          let kept = store cant.0 in
          inr (name_why tab name old.now.trees (sound_of old kept) kept.numbered.1.0 (free cant.0) fit e (subst (CantAdd e (tab_table 1) old.now.trees) (name_made tab name) cant.1))
    ]

-- a table of another name is one that there was before the rows of a number were taken out
pub others_before : (tab : ℤ) (name : List ℕ) (tables : List (ℤ × List ℕ)) → IsOthers tab name (where_key int_cmp (λ k. not (int_eq tab k)) tables) → IsOthers tab name tables
others_before tab name tables it = record {
  other = it.other;
  other_name = it.other_name;
  there = kept (not (int_eq tab it.other)) (sym (find-where_key int_cmp (λ k. not (int_eq tab k)) it.other (respects int_cmp int_cmp_total tied_ints (λ k. not (int_eq tab k)) it.other) tables) ∙ it.there);
  apart = it.apart;
  same = it.same;
}
  where
    kept : (b : Bool) → cond b (find int_cmp it.other tables) None ≡ Some it.other_name → find int_cmp it.other tables ≡ Some it.other_name
    kept true h = h
    kept false h = cc
