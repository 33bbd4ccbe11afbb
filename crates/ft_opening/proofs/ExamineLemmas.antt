-- What is seen of a database before it is taken as a store, and why one with the tables of a store is not taken.
use Rattle.std.proofs.Common.{◌≡◌, ◌≢◌, ℕ, zero, suc, ◌<◌, ◌≤◌, ℤ, true, false, List, [], ◌∷◌, ◌++◌, map, length, refl, sym, ◌∙◌, subst, arith, IsTrue, true≢false, IsPermutation, codes, None, Some, ◌≤ℤ◌, ◌<ℤ◌, Option, IfSome, ◌⊎◌, filter, inl, inr, ap, Ordering, Less, Equal, Greater, is_gt, int_cmp}
use Rattle.ft_opening.proofs.Common.{ints, AllByRecursion, length-map, IsPermutation-map, IsPermutation-sym, length_permutation, Value, Null, Int}
use Rattle.ft_opening.proofs.Common.{Select, Row, column, Trees, Query, Output, output, IsAnswer, overlay, State, Shown, understood, reads_listing}
use Rattle.ft_opening.proofs.Common.{everything, reads_as, command_of, one_permutation, IsPlain, IsAscending, rowid, is_int, map-map, filter_all}
use Rattle.ft_opening.proofs.Common.{all_of, all_weaker, all-append, along_permutation, Schema, int_cmp_total, Database, HasCleanDisk, Survives, id_in}
use Rattle.ft_opening.proofs.Common.{Has, all_has, Datatype, NotNull, passes, IsSound, sort_by, all_both, last_key, and_parts}
use Rattle.sqlite.specs.Values as values
use Rattle.ft_opening.specs.declared.same.Layout.{Layout}
use Rattle.ft_opening.specs.declared.same.Layout.TheVariants.{Older, Present}
use Rattle.ft_store.specs.Tables.{store_schema, meta_table}
use Rattle.ft_opening.specs.Older.{schema_of, tables_of}
use Rattle.ft_opening.specs.Scan.{Scans, tree_at, AreUpTo, AreRising, IsOneOf}
use Rattle.ft_store.specs.Calls.{HasOwnRowids, HaveOwnRowids}
use Rattle.ft_store.proofs.{query_by, rising, no_limit, no_offset, arranged, all_selected, no_overlay, ascending_push, query_refused, cmp_ints}
use Rattle.ft_store.proofs.{IsInt, DifferIn, tied_ints, int_is, is_integer, not_null, rises-sort_by, blamed_then, unless_shut}
use Rattle.sqlite_keyed.proofs.KeyedLemmas.{lt_from_Less}
use Rattle.ft_store.specs.Made.{is_whole, IsTypedIn}
use Rattle.ft_store.specs.Blame.{IsBlamed, IsUnasked, GivesUntaken}
use Rattle.ft_opening.proofs.ChainLemmas.{Looking}

-- ---- the texts

pub scans_meta : (layout : Layout) → Scans (schema_of layout) (codes "SELECT rowid FROM meta ORDER BY rowid") 0
unfolding understood everything
scans_meta Older = record { names = codes "one" ∷ []; is = refl; plain = (refl, refl); unlisted = refl; whole = refl; typed = λ db has no. true≢false (rw has at no) }
scans_meta Present = record { names = codes "one" ∷ []; is = refl; plain = (refl, refl); unlisted = refl; whole = refl; typed = λ db has no. true≢false (rw has at no) }

pub scans_tab : (layout : Layout) → Scans (schema_of layout) (codes "SELECT rowid FROM tab ORDER BY rowid") 1
unfolding understood everything
scans_tab Older = record { names = codes "id" ∷ []; is = refl; plain = (refl, refl); unlisted = refl; whole = refl; typed = λ db has no. true≢false (rw has at no) }
scans_tab Present = record { names = codes "id" ∷ []; is = refl; plain = (refl, refl); unlisted = refl; whole = refl; typed = λ db has no. true≢false (rw has at no) }

pub scans_col : (layout : Layout) → Scans (schema_of layout) (codes "SELECT rowid FROM col ORDER BY rowid") 3
unfolding understood everything
scans_col Older = record { names = codes "rowid" ∷ []; is = refl; plain = (refl, refl); unlisted = refl; whole = refl; typed = λ db has no. true≢false (rw has at no) }
scans_col Present = record { names = codes "rowid" ∷ []; is = refl; plain = (refl, refl); unlisted = refl; whole = refl; typed = λ db has no. true≢false (rw has at no) }

pub scans_cell : (layout : Layout) → Scans (schema_of layout) (codes "SELECT rowid FROM cell ORDER BY rowid") 5
unfolding understood everything
scans_cell Older = record { names = codes "rowid" ∷ []; is = refl; plain = (refl, refl); unlisted = refl; whole = refl; typed = λ db has no. true≢false (rw has at no) }
scans_cell Present = record { names = codes "rowid" ∷ []; is = refl; plain = (refl, refl); unlisted = refl; whole = refl; typed = λ db has no. true≢false (rw has at no) }

pub scans_posting : (layout : Layout) → Scans (schema_of layout) (codes "SELECT rowid FROM posting ORDER BY rowid") 7
unfolding understood everything
scans_posting Older = record { names = codes "rowid" ∷ []; is = refl; plain = (refl, refl); unlisted = refl; whole = refl; typed = λ db has no. true≢false (rw has at no) }
scans_posting Present = record { names = codes "rowid" ∷ []; is = refl; plain = (refl, refl); unlisted = refl; whole = refl; typed = λ db has no. true≢false (rw has at no) }

pub scans_sizes : (layout : Layout) → Scans (schema_of layout) (codes "SELECT rowid FROM sizes ORDER BY rowid") 9
unfolding understood everything
scans_sizes Older = record { names = codes "rowid" ∷ []; is = refl; plain = (refl, refl); unlisted = refl; whole = refl; typed = λ db has no. true≢false (rw has at no) }
scans_sizes Present = record { names = codes "rowid" ∷ []; is = refl; plain = (refl, refl); unlisted = refl; whole = refl; typed = λ db has no. true≢false (rw has at no) }

pub scans_noted : (layout : Layout) → Scans (schema_of layout) (codes "SELECT rowid FROM noted ORDER BY rowid") 11
unfolding understood everything
scans_noted Older = record { names = codes "rowid" ∷ []; is = refl; plain = (refl, refl); unlisted = refl; whole = refl; typed = λ db has no. true≢false (rw has at no) }
scans_noted Present = record { names = codes "rowid" ∷ []; is = refl; plain = (refl, refl); unlisted = refl; whole = refl; typed = λ db has no. true≢false (rw has at no) }

scans_skip : Scans store_schema (codes "SELECT rowid FROM skip ORDER BY rowid") 13
unfolding understood everything
scans_skip = record { names = codes "rowid" ∷ []; is = refl; plain = (refl, refl); unlisted = refl; whole = refl; typed = λ db has no. true≢false (rw has at no) }

pub scans_last : (layout : Layout) (at : ℕ) → 7 ≤ at → at < tables_of layout → Scans (schema_of layout) (codes "SELECT rowid FROM skip ORDER BY rowid") (tree_at at)
scans_last Older at low below = absurd (omega (arith, low, below))
scans_last Present at low below = let is : at ≡ 7 = omega (arith, low, below) in rw is scans_skip

abbrev pub version_text : List ℕ
version_text = codes "SELECT version FROM meta"

abbrev pub version_query : Query
version_query = query_by 0 [] (2 ∷ []) [] no_limit

pub version_is : (layout : Layout) → command_of (understood (schema_of layout) version_text) ≡ Select (record { lets = []; body = version_query }) (codes "version" ∷ [])
unfolding understood everything
version_is Older = refl
version_is Present = refl

pub version_unlisted : (layout : Layout) → reads_listing (schema_of layout) version_text ≡ false
unfolding understood everything
version_unlisted Older = refl
version_unlisted Present = refl

pub version_plain : (layout : Layout) → IsPlain (understood (schema_of layout) version_text)
unfolding understood everything
version_plain Older = (refl, refl)
version_plain Present = (refl, refl)

-- ---- values that differ, in any order

record Moves (xs ys : List Value) : Type 0 where
  apart : (w : Value) → AllByRecursion (λ v. w ≢ v) xs → AllByRecursion (λ v. w ≢ v) ys
  differ : IsAscending (λ a b. a ≢ b) xs → IsAscending (λ a b. a ≢ b) ys
  ints : AllByRecursion (λ v. IsTrue (is_int v)) xs → AllByRecursion (λ v. IsTrue (is_int v)) ys

moves : (xs ys : List Value) → IsPermutation xs ys → Moves xs ys
moves = along_permutation Moves
    (λ xs. record { apart = λ w h. h; differ = λ h. h; ints = λ h. h })
    (λ x xs ys m. record { apart = λ w h. (h.0, m.apart w h.1); differ = λ h. (m.apart x h.0, m.differ h.1); ints = λ h. (h.0, m.ints h.1) })
    (λ x y xs. record { apart = λ w h. (h.1.0, (h.0, h.1.1)); differ = λ h. ((λ e. h.0.0 (sym e), h.1.0), (h.0.1, h.1.1)); ints = λ h. (h.1.0, (h.0, h.1.1)) })
    (λ xs ys zs m n. record { apart = λ w h. n.apart w (m.apart w h); differ = λ h. n.differ (m.differ h); ints = λ h. n.ints (m.ints h) })

module _ {X Y : Type 0} (f : X → Y) where
  all_to : (P : Y → Type 0) (xs : List X) → AllByRecursion (λ x. P (f x)) xs → AllByRecursion P (map f xs)
  all_to P [] h = tt
  all_to P (x ∷ xs) h = (h.0, all_to P xs h.1)

  all_back : (P : Y → Type 0) (xs : List X) → AllByRecursion P (map f xs) → AllByRecursion (λ x. P (f x)) xs
  all_back P [] h = tt
  all_back P (x ∷ xs) h = (h.0, all_back P xs h.1)

  up_to : (R : Y → Y → Type 0) (xs : List X) → IsAscending (λ a b. R (f a) (f b)) xs → IsAscending R (map f xs)
  up_to R [] h = tt
  up_to R (x ∷ xs) h = (all_to (R (f x)) xs h.0, up_to R xs h.1)

  pub up_back : (R : Y → Y → Type 0) (xs : List X) → IsAscending R (map f xs) → IsAscending (λ a b. R (f a) (f b)) xs
  up_back R [] h = tt
  up_back R (x ∷ xs) h = (all_back (R (f x)) xs h.0, up_back R xs h.1)

-- rows in any order
pub own_again : (xs ys : List Row) → IsPermutation (map rowid xs) (map rowid ys) → HasOwnRowids ys → HasOwnRowids xs
own_again xs ys same own =
    let m = moves (map rowid ys) (map rowid xs) (IsPermutation-sym _ _ same) in
    (up_back rowid (λ a b. a ≢ b) xs (m.differ (up_to rowid (λ a b. a ≢ b) ys own.0)), all_back rowid (λ v. IsTrue (is_int v)) xs (m.ints (all_to rowid (λ v. IsTrue (is_int v)) ys own.1)))

differ_from : (m id : ℤ) (row : Row) → rowid row ≡ Int id → m <ℤ id → (rows : List Row) → AllByRecursion (λ r. (n : ℤ) × (rowid r ≡ Int n) × (n ≤ℤ m)) rows → AllByRecursion (λ r. DifferIn r row) rows
differ_from m id row is less [] all = tt
differ_from m id row is less (r ∷ rows) all =
    let n = all.0.0 in
    let p = all.0.1 in
    let upto = all.0.2 in (λ e. apart n upto (sym p ∙ e ∙ is), differ_from m id row is less rows all.1)
  where
    apart : (n : ℤ) → n ≤ℤ m → ◌≡◌ {A = Value} (Int n) (Int id) → ⊥
    apart n upto e = let same : n ≡ id = cc in omega (arith, ints, same, upto, less)

raised : (m id : ℤ) → m <ℤ id → (rows : List Row) → AllByRecursion (λ r. (n : ℤ) × (rowid r ≡ Int n) × (n ≤ℤ m)) rows → AllByRecursion (λ r. (n : ℤ) × (rowid r ≡ Int n) × (n ≤ℤ id)) rows
raised m id less rows all = all_weaker (λ r. (n : ℤ) × (rowid r ≡ Int n) × (n ≤ℤ m)) (λ r. (n : ℤ) × (rowid r ≡ Int n) × (n ≤ℤ id)) (λ r h. (h.0, h.1, omega (arith, ints, h.2, less))) rows all

itself_up_to : (id : ℤ) → id ≤ℤ id
itself_up_to id = omega (arith, ints)

pub joined_on : (last : Option ℤ) (id : ℤ) (row : Row) (rows : List Row) → rowid row ≡ Int id → IfSome last (λ before. before <ℤ id) → AreUpTo last rows → IsAscending DifferIn rows
    → AreUpTo (Some id) (rows ++ row ∷ []) × IsAscending DifferIn (rows ++ row ∷ [])
joined_on None id row rows is less none up = subst (λ l. AreUpTo (Some id) (l ++ row ∷ []) × IsAscending DifferIn (l ++ row ∷ [])) (sym none) (((id, is, itself_up_to id), tt), (tt, tt))
joined_on (Some m) id row rows is less all up = (
  all-append (λ r. (n : ℤ) × (rowid r ≡ Int n) × (n ≤ℤ id)) rows (row ∷ []) (raised m id less rows all) ((id, is, itself_up_to id), tt),
  ascending_push DifferIn rows row up (differ_from m id row is less rows all),
)

pub all_rise : (last : Option ℤ) (rows : List Row) → AreUpTo last rows × IsAscending DifferIn rows → HasOwnRowids rows
all_rise None rows h = subst HasOwnRowids (sym h.0) (tt, tt)
all_rise (Some m) rows h = (h.1, all_weaker (λ r. (n : ℤ) × (rowid r ≡ Int n) × (n ≤ℤ m)) IsInt (λ r k. subst (λ v. IsTrue (is_int v)) (sym k.1) refl) rows h.0)

-- ---- what the queries answer

pub every : (db : Trees) (tree : ℕ) (shown : List ℕ) (order : List ℕ) (rows : List Row) → IsAnswer (query_by tree [] shown (rising order) no_limit) db [] rows
    → IsPermutation (map (λ r. (output (query_by tree [] shown (rising order) no_limit) ([] ∷ r ∷ [])).1) (db tree)) rows
every db tree shown order rows answer =
    let q = query_by tree [] shown (rising order) no_limit in
    let all = arranged db tree [] shown (rising order) no_limit [] rows answer in
    let whole = subst (λ l. IsPermutation (map (λ r. output q ([] ∷ r ∷ [])) l) answer.ordered) (filter_all (λ r. true) (db tree) (all_of _ (λ r. refl) (db tree))) all in
    subst (IsPermutation _) (sym answer.shown) (subst (λ l. IsPermutation l (map (λ (o : Output). o.1) answer.ordered)) (map-map (λ (o : Output). o.1) (λ r. output q ([] ∷ r ∷ [])) (db tree)) (IsPermutation-map (λ (o : Output). o.1) _ _ whole))

pub scanned : (tables : Schema) (text : List ℕ) (tree : ℕ) → Scans tables text tree → (old new : State) → old.now.schema ≡ tables → (rows : List Row) → Shown text [] old new rows → HasOwnRowids rows → HasOwnRowids (old.now.trees tree)
scanned tables text tree it old new schema rows h own =
    let answer = (reads_as text [] old new tables schema _ it.is it.plain it.unlisted rows h).answer Null in
    let all = every (overlay old.now.trees []) tree (0 ∷ []) (0 ∷ []) rows answer in
    let rowids = subst (λ l. IsPermutation l (map rowid rows)) (map-map rowid (λ (r : Row). column r 0 ∷ []) (overlay old.now.trees [] tree)) (IsPermutation-map rowid _ _ all) in
    subst HasOwnRowids (no_overlay old.now.trees tree) (own_again (overlay old.now.trees [] tree) rows rowids own)

pub version_seen : (layout : Layout) (old new : State) → old.now.schema ≡ schema_of layout → (rows : List Row) → Shown version_text [] old new rows
    → (length (old.now.trees 0) ≡ length rows) × ((n : ℤ) → map (λ r. column r 0) rows ≡ Int n ∷ [] → map (λ r. column r 2) (old.now.trees 0) ≡ Int n ∷ [])
version_seen layout old new schema rows h =
    let answer = (reads_as version_text [] old new (schema_of layout) schema _ (version_is layout) (version_plain layout) (version_unlisted layout) rows h).answer Null in
    let all = every (overlay old.now.trees []) 0 (2 ∷ []) [] rows answer in
    let values = subst (λ l. IsPermutation l (map (λ (r : Row). column r 0) rows)) (map-map (λ (r : Row). column r 0) (λ (r : Row). column r 2 ∷ []) (old.now.trees 0)) (IsPermutation-map (λ (r : Row). column r 0) _ _ all) in (
      sym (length-map (old.now.trees 0) (λ (r : Row). column r 2 ∷ [])) ∙ sym (length_permutation _ _ all),
      λ n is. one_permutation (Int n) _ (IsPermutation-sym _ _ (subst (λ l. IsPermutation (map (λ (r : Row). column r 2) (old.now.trees 0)) l) is values)),
    )

-- ---- all tables

pub numbered_at : (layout : Layout) (db : Trees) (i : ℕ) → i < tables_of layout → HaveOwnRowids (schema_of layout).tables db → HasOwnRowids (db (tree_at i))
numbered_at Older db zero below h = h.0
numbered_at Older db (suc zero) below h = h.1.0
numbered_at Older db (suc (suc zero)) below h = h.1.1.0
numbered_at Older db (suc (suc (suc zero))) below h = h.1.1.1.0
numbered_at Older db (suc (suc (suc (suc zero)))) below h = h.1.1.1.1.0
numbered_at Older db (suc (suc (suc (suc (suc zero))))) below h = h.1.1.1.1.1.0
numbered_at Older db (suc (suc (suc (suc (suc (suc zero)))))) below h = h.1.1.1.1.1.1.0
numbered_at Older db (suc (suc (suc (suc (suc (suc (suc i))))))) below h = absurd (omega (arith, below))
numbered_at Present db zero below h = h.0
numbered_at Present db (suc zero) below h = h.1.0
numbered_at Present db (suc (suc zero)) below h = h.1.1.0
numbered_at Present db (suc (suc (suc zero))) below h = h.1.1.1.0
numbered_at Present db (suc (suc (suc (suc zero)))) below h = h.1.1.1.1.0
numbered_at Present db (suc (suc (suc (suc (suc zero))))) below h = h.1.1.1.1.1.0
numbered_at Present db (suc (suc (suc (suc (suc (suc zero)))))) below h = h.1.1.1.1.1.1.0
numbered_at Present db (suc (suc (suc (suc (suc (suc (suc zero))))))) below h = h.1.1.1.1.1.1.1.0
numbered_at Present db (suc (suc (suc (suc (suc (suc (suc (suc i)))))))) below h = absurd (omega (arith, below))

-- ---- the version

abbrev IsMarkRow : Row → Type 0
IsMarkRow r = column r 2 ≡ Int (id_in (column r 2))

mark_typed : (schema : Schema) (db : Trees) (row : Row) → passes Datatype schema db (meta_table 0) row ≡ true → passes NotNull schema db (meta_table 0) row ≡ true → IsMarkRow row
mark_typed schema db [] typed there = absurd (true≢false (sym there))
mark_typed schema db (r ∷ []) typed there = absurd (true≢false (sym there))
mark_typed schema db (r ∷ v ∷ []) typed there = absurd (true≢false (sym there))
mark_typed schema db (r ∷ v ∷ w ∷ more) typed there = is_integer w (and_parts _ _ (and_parts _ _ (and_parts _ _ typed).0).1).0 (not_null _ (and_parts _ _ there).0)

are_marks : (layout : Layout) (db : Trees) → IsSound (schema_of layout) db → AllByRecursion IsMarkRow (db 0)
are_marks Older db sound = all_both _ _ IsMarkRow (mark_typed (schema_of Older) db) (db 0) (sound.obeys.rules Datatype).0 (sound.obeys.rules NotNull).0
are_marks Present db sound = all_both _ _ IsMarkRow (mark_typed (schema_of Present) db) (db 0) (sound.obeys.rules Datatype).0 (sound.obeys.rules NotNull).0

version_whole : (layout : Layout) → is_whole version_text 0 (understood (schema_of layout) version_text) ≡ true
unfolding understood everything
version_whole Older = refl
version_whole Present = refl

version_typed : (layout : Layout) → IsTypedIn (schema_of layout) version_query []
version_typed Older = λ db has no. true≢false (rw has at no)
version_typed Present = λ db has no. true≢false (rw has at no)

pub version_blamed : (layout : Layout) (old new : State) → (IsTrue old.is_open → (old.now.schema ≡ schema_of layout) × IsSound (schema_of layout) old.now.trees)
    → IsBlamed old new ⊎ (IsUnasked old version_text [] ⊎ GivesUntaken old version_text [] (λ row. (0 < length row) × values.IsInt (column row 0))) → IsBlamed old new
version_blamed layout old new kept why =
    elim (query_refused old new (λ is_open. (kept is_open).0) version_text [] _ 0 [] (2 ∷ []) [] no_limit no_offset (version_is layout) (version_plain layout) (version_unlisted layout) (version_whole layout) (version_typed layout)
    IsMarkRow _ (λ r is. (omega arith, (id_in (column r 2), is))) why)
    [ inl blamed ↦ blamed | inr untaken ↦ absurd (untaken.1 (are_marks layout old.now.trees (kept untaken.0).1)) ]

-- ---- the rowids

pub rowids_blamed : (tables : Schema) (text : List ℕ) (tree : ℕ) → Scans tables text tree → (old new : State) → (IsTrue old.is_open → old.now.schema ≡ tables)
    → IsBlamed old new ⊎ (IsUnasked old text [] ⊎ GivesUntaken old text [] (λ row. (0 < length row) × values.IsInt (column row 0))) → IsBlamed old new ⊎ ¬ HasOwnRowids (old.now.trees tree)
rowids_blamed tables text tree it old new has why =
    elim (query_refused old new has text [] it.names tree [] (0 ∷ []) (rising (0 ∷ [])) no_limit no_offset it.is it.plain it.unlisted it.whole it.typed IsInt _ (λ r is. (omega arith, (id_in (rowid r), int_is _ is))) why) [
      | inl blamed ↦ inl blamed
      | inr untaken ↦ inr (λ own. untaken.1 (subst (AllByRecursion IsInt) (sym (no_overlay old.now.trees tree)) own.1))
    ]

abbrev AtMost : Row → Row → Type 0
AtMost a b = is_gt (int_cmp (id_in (rowid a)) (id_in (rowid b))) ≡ false

rises : (a b : Row) → DifferIn a b → IsInt a → IsInt b → AtMost a b → id_in (rowid a) <ℤ id_in (rowid b)
rises a b apart p q low = go (int_cmp (id_in (rowid a)) (id_in (rowid b))) refl low
  where
    go : (o : Ordering) → int_cmp (id_in (rowid a)) (id_in (rowid b)) ≡ o → is_gt o ≡ false → id_in (rowid a) <ℤ id_in (rowid b)
    go Less e h = lt_from_Less _ _ e
    go Equal e h = absurd (apart (int_is _ p ∙ ap Int (tied_ints _ _ e) ∙ sym (int_is _ q)))
    go Greater e h = absurd (true≢false h)

each_rises : (rows : List Row) → IsAscending DifferIn rows → AllByRecursion IsInt rows → IsAscending AtMost rows → AreRising rows
each_rises [] apart ints low = tt
each_rises (r ∷ rows) apart ints low = (
  all_both (λ s. DifferIn r s × IsInt s) (AtMost r) (λ s. id_in (rowid r) <ℤ id_in (rowid s)) (λ s h k. rises r s h.0 ints.0 h.1 k) rows
      (all_both (DifferIn r) IsInt (λ s. DifferIn r s × IsInt s) (λ s h k. (h, k)) rows apart.0 ints.1) low.0,
  each_rises rows apart.1 ints.1 low.1,
)

-- where no two rows have one rowid, the query of the rowids gives numbers that rise
pub numbers_rise : (tables : Schema) (text : List ℕ) (tree : ℕ) → Scans tables text tree → (old new : State) → old.now.schema ≡ tables → (rows : List Row) → Shown text [] old new rows → HasOwnRowids (old.now.trees tree) → AreRising rows
numbers_rise tables text tree it old new schema rows h own =
    let db = overlay old.now.trees [] in
    let answer = (reads_as text [] old new tables schema _ it.is it.plain it.unlisted rows h).answer Null in
    let there : HasOwnRowids (db tree) = subst HasOwnRowids (sym (no_overlay old.now.trees tree)) own in
    let all = every db tree (0 ∷ []) (0 ∷ []) rows answer in
    let rowids = subst (λ l. IsPermutation l (map rowid rows)) (map-map rowid (λ (r : Row). column r 0 ∷ []) (db tree)) (IsPermutation-map rowid _ _ all) in
    let again = own_again rows (db tree) (IsPermutation-sym _ _ rowids) there in
    let id = λ (r : Row). id_in (rowid r) in
    let sorted : map (λ (o : Output). id_in (rowid o.1)) answer.ordered ≡ filter (λ n. true) (sort_by int_cmp (map id (db tree))) =
    all_selected int_cmp int_cmp_total id IsInt db tree there.1 [] (0 ∷ []) (rising (0 ∷ [])) no_limit [] (λ n. true) (λ o. id_in (rowid o.1)) (λ r h. refl) (λ r h p. refl)
    (λ a b p q f g. last_key (cmp_ints _ _ _ _ (int_is _ p) (int_is _ q))) tied_ints rows answer in
    let is : map id rows ≡ sort_by int_cmp (map id (db tree)) = ap (map id) answer.shown ∙ map-map id (λ (o : Output). o.1) answer.ordered ∙ sorted ∙ filter_all (λ n. true) _ (all_of _ (λ n. refl) _) in
    each_rises rows again.0 again.1 (up_back id (λ m n. is_gt (int_cmp m n) ≡ false) rows (subst (IsAscending (λ m n. is_gt (int_cmp m n) ≡ false)) (sym is) (rises-sort_by int_cmp int_cmp_total tied_ints (map id (db tree)))))

-- ---- the numbers as they come

all_fronts : {X : Type 0} (P : X → Type 0) (xs : List X) (x : X) → AllByRecursion P (xs ++ x ∷ []) → AllByRecursion P xs × P x
all_fronts P [] x all = (tt, all.0)
all_fronts P (y ∷ ys) x all = let more = all_fronts P ys x all.1 in ((all.0, more.0), more.1)

fronts : {X : Type 0} (R : X → X → Type 0) (xs : List X) (x : X) → IsAscending R (xs ++ x ∷ []) → IsAscending R xs × AllByRecursion (λ y. R y x) xs
fronts R [] x up = (tt, tt)
fronts R (y ∷ ys) x up = let later = fronts R ys x up.1 in let split = all_fronts (R y) ys x up.0 in ((split.0, later.0), (split.1, later.1))

-- where all numbers rise, the next one is above the last
pub rises_on : (last : Option ℤ) (id : ℤ) (row : Row) (rows : List Row) → rowid row ≡ Int id → IsOneOf last rows → AreRising (rows ++ row ∷ []) → AreRising rows × IfSome last (λ before. before <ℤ id)
rises_on None id row rows is one up = ((fronts _ rows row up).0, tt)
rises_on (Some m) id row rows is one up =
    let both = fronts _ rows row up in
    (both.0, subst (λ v. m <ℤ id_in v) is (subst (λ n. n <ℤ id_in (rowid row)) one.2 (all_has _ rows one.0 both.1 one.1)))

pub last_there : (rows : List Row) (row : Row) → Has (rows ++ row ∷ []) row
last_there [] row = inl refl
last_there (r ∷ rows) row = inr (last_there rows row)

-- ---- a read that is refused behind others

pub looked_refused : (layout : Layout) (at : ℕ) → at < tables_of layout → (old was now : State) → Looking old was → (C : _) → Survives was now C → HasCleanDisk now
    → IsBlamed was now ⊎ ¬ HasOwnRowids (was.now.trees (tree_at at)) → IsBlamed old now ⊎ ¬ HaveOwnRowids (schema_of layout).tables old.now.trees
looked_refused layout at below old was now look C s clean why = unless_shut old now inl (λ is_open. elim why [
  | inl blamed ↦ inl (blamed_then old was now _ _ before look.survives s blamed)
  | inr again ↦ inr (λ all. again (subst (λ (d : Database). HasOwnRowids (d.trees (tree_at at))) (sym (look.kept before (look.live before is_open)).0) (numbered_at layout old.now.trees at below all)))
])
  where
    before : HasCleanDisk was
    before = omega (arith, s.clean, clean)
