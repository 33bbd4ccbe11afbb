-- What a query on one table selects, and what DELETE and INSERT make of its rows.
use Rattle.std.proofs.Common.{◌≡◌, ℕ, ◌+◌, ◌<◌, Bool, true, false, cond, List, [], ◌∷◌, ◌++◌, map, filter, length, refl, sym, ap, ap₂, ◌∙◌, subst, arith, Ordering, Equal, is_lt, IsPermutation, IsSorted, All, ◌≢◌, ◌⊎◌, inl, inr, ◌/◌, ℤ, not, ◌&&◌, ◌||◌, slice_get, Some, None, Ok, Err, Result, is_eq, IsTrue, nat_le, ◌^◌, unwrap_or, ◌-◌}
use Rattle.ft_store.proofs.Common.{AllByRecursion, list_all, IsTotalOrder, get_or-map, length-map, All-from_recursion, All-permutation}
use Rattle.ft_store.proofs.Common.{IsPermutation-map, Row, Trees, Term, holds, Query, Output, output, output_cmp, inner, end, matches, IsAnswer}
use Rattle.ft_store.proofs.Common.{sort_by, map-map, filter-map, all_map, all-filter, all_weaker, all_both, Key, filter_passes, recursion_from_All, list_any, tied_itself}
use Rattle.ft_store.proofs.Common.{list_any-IsPermutation, Value, Null, Int, value_cmp, value_cmp_total, IsAscending, rowid, has_rowid, without_rowid}
use Rattle.ft_store.proofs.Common.{put_row, is_int, edit_of, id_in, is_taken, are_fresh, put_all, unary, Chosen, Given, Table, overlay, Values}
use Rattle.ft_store.proofs.Common.{Delete, Insert, understood, Database, IsDatabase, value_rows, Written, Task, stamped, Tally, Does, AtPlace, OnRows}
use Rattle.ft_store.proofs.Common.{State, Executes, mode_of, IsPlain, command_of, statement_of, runs_as, one_step, filter_all, all_of}
use Rattle.ft_store.proofs.KeyedLemmas.{sorted_is, sort_by-filter}
use Rattle.ft_store.proofs.Texts.{query_by, table_query, no_limit}
use Rattle.ft_store.specs.Calls.{HasOwnRowids}
use Rattle.ft_store.proofs.TypedLemmas.{IsInt, DifferIn, apart_rows, fresh_first, int_is}
use Rattle.sqlite.specs.Edit.{without_all}
use Rattle.sqlite.specs.Cast.{cast}
use Rattle.sqlite.specs.Kind.TheVariants.{Integer}
use Rattle.sqlite_rules.specs.Calls.{ids_of}
use Rattle.ft_store.specs.Tables.{store_schema, a_table}

-- ---- lists

pub filter_same_on : {X : Type 0} (P : X → Type 0) (p q : X → Bool) → ((x : X) → P x → p x ≡ q x) → (xs : List X) → AllByRecursion P xs → filter p xs ≡ filter q xs
filter_same_on P p q same [] all = refl
filter_same_on P p q same (x ∷ xs) all = rw (same x all.0, filter_same_on P p q same xs all.1) refl

map_same_on : {X Y : Type 0} (P : X → Type 0) (f g : X → Y) → ((x : X) → P x → f x ≡ g x) → (xs : List X) → AllByRecursion P xs → map f xs ≡ map g xs
map_same_on P f g same [] all = refl
map_same_on P f g same (x ∷ xs) all = ap₂ ◌∷◌ (same x all.0) (map_same_on P f g same xs all.1)

-- ---- one table

pub no_overlay : (db : Trees) (t : ℕ) → overlay db [] t ≡ db t
no_overlay db t = elim (nat_le (2 ^ 31) t) as (λ b. unwrap_or (cond b (slice_get {X = List Row} [] (t - 2 ^ 31)) None) (db t) ≡ db t) [ true ↦ refl | false ↦ refl ]

one_table : (db : Trees) (tree : ℕ) (terms : List Term) (params : Row) (rows : List Row)
    → matches (λ _. rows) terms (inner tree end) (params ∷ []) ≡ map (λ r. params ∷ r ∷ []) (filter (λ r. list_all (holds (params ∷ r ∷ [])) terms) rows)
one_table db tree terms params [] = refl
one_table db tree terms params (r ∷ rows) =
    elim (list_all (holds (params ∷ r ∷ [])) terms) as (λ b. cond b ((params ∷ r ∷ []) ∷ []) [] ++ matches (λ _. rows) terms (inner tree end) (params ∷ []) ≡ map (λ s. params ∷ s ∷ []) (cond b (r ∷ filter (λ s. list_all (holds (params ∷ s ∷ [])) terms) rows) (filter (λ s. list_all (holds (params ∷ s ∷ [])) terms) rows)))
    [ true ↦ ap (λ l. (params ∷ r ∷ []) ∷ l) (one_table db tree terms params rows) | false ↦ one_table db tree terms params rows ]

module _ (db : Trees) (tree : ℕ) (terms : List Term) (show : List ℕ) (order : List (Term × Key)) (limit : Term) (params : Row) where
  pub arranged : (rows : List Row) (answer : IsAnswer (query_by tree terms show order limit) db params rows)
      → IsPermutation (map (λ r. output (query_by tree terms show order limit) (params ∷ r ∷ [])) (filter (λ r. list_all (holds (params ∷ r ∷ [])) terms) (db tree))) answer.ordered
  arranged rows answer =
      let q = query_by tree terms show order limit in
      subst (λ l. IsPermutation l answer.ordered) (answer.distinct ∙ ap (map (output q)) (answer.grouped ∙ one_table db tree terms params (db tree)) ∙ map-map (output q) _ _) answer.same

module _ {X : Type 0} (cmp : X → X → Ordering) (total : IsTotalOrder cmp) (of : Row → X) (P : Row → Type 0) (db : Trees) (tree : ℕ)
    (each : AllByRecursion P (db tree))
    (terms : List Term) (show : List ℕ) (order : List (Term × Key)) (limit : Term) (params : Row) (test : X → Bool) (back : Output → X) where
  abbrev pub the_query : Query
  the_query = query_by tree terms show order limit

  abbrev pub passes : Row → Bool
  passes r = list_all (holds (params ∷ r ∷ [])) terms

  abbrev pub out : Row → Output
  out r = output the_query (params ∷ r ∷ [])

  module _ (tests : (r : Row) → P r → passes r ≡ test (of r)) (shows : (r : Row) → P r → passes r ≡ true → back (out r) ≡ of r)
      (orders : (a b : Row) → P a → P b → passes a ≡ true → passes b ≡ true → output_cmp the_query (out a) (out b) ≡ cmp (of a) (of b)) where
    abbrev IsOut : Output → Type 0
    IsOut o = (r : Row) × P r × (passes r ≡ true) × (o ≡ out r)

    abbrev IsPassed : Row → Type 0
    IsPassed r = P r × (passes r ≡ true)

    all_passed : AllByRecursion IsPassed (filter passes (db tree))
    all_passed = all_both P (λ r. passes r ≡ true) IsPassed (λ r h k. (h, k)) _ (all-filter P passes (db tree) each) (recursion_from_All _ _ (filter_passes passes (db tree)))

    kept_of : map (λ r. back (out r)) (filter passes (db tree)) ≡ filter test (map of (db tree))
    kept_of =
        map_same_on IsPassed (λ r. back (out r)) of (λ r h. shows r h.0 h.1) _ all_passed ∙ ap (map of) (filter_same_on P passes (λ r. test (of r)) tests (db tree) each)
        ∙ sym (filter-map test of (db tree))

    outs : (rows : List Row) (answer : IsAnswer the_query db params rows) → All IsOut answer.ordered
    outs rows answer =
        All-permutation IsOut _ _ (arranged db tree terms show order limit params rows answer)
        (All-from_recursion IsOut _ (all_map IsOut out _ (all_weaker IsPassed (λ r. IsOut (out r)) (λ r h. (r, h.0, h.1, refl)) _ all_passed)))

    pub still_sorted : (rows : List Row) (answer : IsAnswer the_query db params rows) → IsSorted cmp (map back answer.ordered)
    still_sorted rows answer k d low within =
        let inside : k + 1 < length answer.ordered = rw length-map at within in
        let none : Output = ([], []) in
        let first = outs rows answer k none (omega arith) in
        let next = outs rows answer (k + 1) none inside in
        ap is_lt (ap₂ cmp (get_or-map back answer.ordered (k + 1) none d inside ∙ ap back next.3 ∙ shows next.0 next.1 next.2) (get_or-map back answer.ordered k none d (omega arith) ∙ ap back first.3 ∙ shows first.0 first.1 first.2)
        ∙ sym (orders next.0 first.0 next.1 first.1 next.2 first.2) ∙ ap₂ (output_cmp the_query) (sym next.3) (sym first.3)) ∙ answer.sorted k none low inside

    pub permuted : (rows : List Row) (answer : IsAnswer the_query db params rows) → IsPermutation (filter test (map of (db tree))) (map back answer.ordered)
    permuted rows answer = subst (λ l. IsPermutation l (map back answer.ordered)) (map-map back out _ ∙ kept_of) (IsPermutation-map back _ _ (arranged db tree terms show order limit params rows answer))

    -- all rows that pass, before LIMIT, where rows that tie are equal
    pub all_selected : ((a b : X) → cmp a b ≡ Equal → a ≡ b) → (rows : List Row) (answer : IsAnswer the_query db params rows) → map back answer.ordered ≡ filter test (sort_by cmp (map of (db tree)))
    all_selected tie rows answer =
        sorted_is cmp total tie (filter test (map of (db tree))) (map back answer.ordered) (permuted rows answer) (still_sorted rows answer)
        ∙ sort_by-filter cmp total tie test (map of (db tree))

-- ---- the rows that a DELETE leaves

abbrev same : Row → Row → Bool
same x r = has_rowid (id_in (rowid x)) r

same_itself : (r : Row) → IsTrue (is_int (rowid r)) → same r r ≡ true
same_itself r h = ap is_eq (ap (value_cmp (rowid r)) (sym (int_is _ h)) ∙ tied_itself value_cmp_total (rowid r))

not_same : (x y : Row) → IsInt x → IsInt y → DifferIn x y → same x y ≡ false
not_same x y p q apart = ap is_eq (ap (value_cmp (rowid y)) (sym (int_is _ p))) ∙ apart_rows y x q p (λ e. apart (sym e))

not_same_back : (x y : Row) → IsInt x → IsInt y → DifferIn x y → same y x ≡ false
not_same_back x y p q apart = ap is_eq (ap (value_cmp (rowid x)) (sym (int_is _ q))) ∙ apart_rows x y p q apart

none_any : {X : Type 0} (p q : X → Bool) (xs : List X) → AllByRecursion (λ x. p x ≡ false) xs → list_any p (filter q xs) ≡ false
none_any p q [] h = refl
none_any p q (x ∷ xs) h =
    elim (q x) as (λ b. list_any p (cond b (x ∷ filter q xs) (filter q xs)) ≡ false) [ true ↦ rw (h.0, none_any p q xs h.1) refl | false ↦ none_any p q xs h.1 ]

-- a row has the rowid of one that passes exactly where it passes
found_again : (p : Row → Bool) (rows : List Row) → IsAscending DifferIn rows → AllByRecursion IsInt rows → AllByRecursion (λ r. list_any (λ x. same x r) (filter p rows) ≡ p r) rows
found_again p [] up ints = tt
found_again p (y ∷ ys) up ints = (go (p y) refl, later (p y) (found_again p ys up.1 ints.1))
  where
    go : (b : Bool) → p y ≡ b → list_any (λ x. same x y) (cond b (y ∷ filter p ys) (filter p ys)) ≡ p y
    go true e = rw (same_itself y ints.0) (sym e)
    go false e = none_any (λ x. same x y) p ys (all_both (DifferIn y) IsInt (λ x. same x y ≡ false) (λ x apart int. not_same_back y x ints.0 int apart) ys up.0 ints.1) ∙ sym e

    later : (b : Bool) → AllByRecursion (λ r. list_any (λ x. same x r) (filter p ys) ≡ p r) ys → AllByRecursion (λ r. list_any (λ x. same x r) (cond b (y ∷ filter p ys) (filter p ys)) ≡ p r) ys
    later false h = h
    later true h =
        all_both (λ r. same y r ≡ false) (λ r. list_any (λ x. same x r) (filter p ys) ≡ p r) (λ r. list_any (λ x. same x r) (y ∷ filter p ys) ≡ p r) (λ r apart e. rw apart e) ys
        (all_both (DifferIn y) IsInt (λ r. same y r ≡ false) (λ r apart int. not_same y r ints.0 int apart) ys up.0 ints.1) h

pub filter_twice : {X : Type 0} (p q : X → Bool) (xs : List X) → filter p (filter q xs) ≡ filter (λ x. q x && p x) xs
filter_twice p q [] = refl
filter_twice p q (x ∷ xs) =
    elim (q x) as (λ b. filter p (cond b (x ∷ filter q xs) (filter q xs)) ≡ cond (b && p x) (x ∷ filter (λ y. q y && p y) xs) (filter (λ y. q y && p y) xs)) [
      | true ↦ ap (λ l. cond (p x) (x ∷ l) l) (filter_twice p q xs)
      | false ↦ filter_twice p q xs
    ]

not_or : (a b : Bool) → (not a && not b) ≡ not (a || b)
not_or true b = refl
not_or false b = refl

without_each : (ids : List ℤ) (rows : List Row) → without_all rows ids ≡ filter (λ r. not (list_any (λ id. has_rowid id r) ids)) rows
without_each [] rows = sym (filter_all (λ r. true) rows (all_of _ (λ r. refl) rows))
without_each (id ∷ ids) rows =
    without_each ids (without_rowid id rows) ∙ filter_twice _ _ rows ∙ (λ i. filter (λ r. not_or (has_rowid id r) (list_any (λ k. has_rowid k r) ids) i) rows)

any_map : {X Y : Type 0} (p : Y → Bool) (f : X → Y) (xs : List X) → list_any p (map f xs) ≡ list_any (λ x. p (f x)) xs
any_map p f [] = refl
any_map p f (x ∷ xs) = ap (λ b. p (f x) || b) (any_map p f xs)

pub without_passing : (p : Row → Bool) (rows : List Row) (ids : List ℤ) → HasOwnRowids rows → IsPermutation (map (λ r. id_in (rowid r)) (filter p rows)) ids
    → without_all rows ids ≡ filter (λ r. not (p r)) rows
without_passing p rows ids shaped perm =
    without_each ids rows
    ∙ filter_same_on _ _ _ (λ r h. h) rows (all_weaker _ (λ r. not (list_any (λ id. has_rowid id r) ids) ≡ not (p r))
    (λ r e. ap not (sym (list_any-IsPermutation (λ id. has_rowid id r) _ _ perm) ∙ any_map (λ id. has_rowid id r) _ (filter p rows) ∙ e)) rows (found_again p rows shaped.0 shaped.1))

-- the rowids of the rows that pass, as a DELETE finds them
pub ids_found : (db : Trees) (tree : ℕ) (terms : List Term) (params : Row) (rows : List Row) → IsAnswer (table_query tree terms (0 ∷ []) []) db params rows
    → IsPermutation (map (λ r. id_in (rowid r)) (filter (λ r. list_all (holds (params ∷ r ∷ [])) terms) (db tree))) (ids_of rows)
ids_found db tree terms params rows answer =
    let back = λ (o : Output). id_in (rowid o.1) in
    subst (λ l. IsPermutation l (ids_of rows)) (map-map back (λ r. output (table_query tree terms (0 ∷ []) []) (params ∷ r ∷ [])) _)
    (subst (IsPermutation (map back _)) (sym (ap ids_of answer.shown ∙ map-map (λ r. id_in (rowid r)) (λ (o : Output). o.1) answer.ordered)) (IsPermutation-map back _ _ (arranged db tree terms (0 ∷ []) [] no_limit params rows answer)))

-- a part that gave a value did not stop on the way
pub went : {B E R : Type 0} {b : B} {Stops : E → Type 0} → ((stop : E) × Stops stop × (Ok b ≡ Err stop)) ⊎ R → R
went (inl stopped) = absurd (let e = stopped.2 in cc)
went (inr on) = on

pub same_value : {B E : Type 0} {a b : B} → ◌≡◌ {A = Result B E} (Ok a) (Ok b) → a ≡ b
same_value e = cc

-- a table as those of a store are: it has no references, and nothing of it is computed or counted
abbrev pub bare_table : Table → Table
bare_table a = a_table a.tree a.name a.columns a.key a.primary a.uniques a.orders a.checks

-- what a write to one table leaves alone
abbrev pub KeepsOthers : ℕ → Trees → Trees → Type 0
KeepsOthers tree old new = AllByRecursion (λ t. t.tree ≢ tree → new t.tree ≡ old t.tree) store_schema.tables

pub record Wrote (tree : ℕ) (old new : State) (rows : List Row) : Type 0 where
  pub schema : new.now.schema ≡ store_schema
  pub written : new.now.trees tree ≡ rows
  pub others : KeepsOthers tree old.now.trees new.now.trees
  pub sound : IsDatabase new.now

pub deletes : (old new : State) (text : List ℕ) (params : Row) (at : ℕ) (table : Table) (terms : List Term) (count : ℕ) → old.now.schema ≡ store_schema
    → command_of (understood store_schema text) ≡ Delete at (record { lets = []; body = table_query table.tree terms (0 ∷ []) [] }) → IsPlain (understood store_schema text)
    → slice_get store_schema.tables at ≡ Some table → (overlay old.now.trees [] table.tree ≡ old.now.trees table.tree) → HasOwnRowids (old.now.trees table.tree) → Executes text params old new (Ok count)
    → Wrote table.tree old new (filter (λ r. not (list_all (holds (params ∷ r ∷ [])) terms)) (old.now.trees table.tree))
deletes old new text params at table terms count has is plain found here shaped h =
    let db = old.now.trees in
    let command = Delete at (record { lets = []; body = table_query table.tree terms (0 ∷ []) [] }) in
    let w = runs_as text params old new store_schema has command is plain count h in
    let said = statement_of text (understood store_schema text) in
    let begun = subst (λ s. Does old.step_limit (mode_of old) params (record old.now { schema = s }) said None command (Ok (w.tally, new.now))) has w.changed in
    let task : Task = record { limit = old.step_limit; keys = (mode_of old).keys; schema = store_schema; table = table; params = params } in
    let on : OnRows task (mode_of old) None command db (Ok (w.tally, new.now)) =
    subst (λ o. AtPlace (λ t. OnRows (record task { table = t }) (mode_of old) None command db) o (Ok (w.tally, new.now))) found begun in
    let done = went on in
    let now = ap (λ (p : Tally × Database). p.1) (same_value (went (went done.2).2).2) in
    let asked = went done.1 in
    let edited_by = went asked.2 in
    let trees : done.0.trees ≡ edited_by.0 = ap (λ (it : Written). it.trees) (same_value edited_by.2) in
    let edit = edit_of db table (ids_of asked.0) Given 0 [] in
    let applies = one_step store_schema _ db edited_by.0 edit refl edited_by.1 in
    let ids = ids_found (overlay db []) table.tree terms params asked.0 (asked.1.answer Null) in
    let left = without_passing (λ r. list_all (holds (params ∷ r ∷ [])) terms) (db table.tree) (ids_of asked.0) shaped (subst (λ rows. IsPermutation (map (λ r. id_in (rowid r)) (filter (λ r. list_all (holds (params ∷ r ∷ [])) terms) rows)) (ids_of asked.0)) here ids) in
    let after : new.now.trees ≡ edited_by.0 = ap (λ (d : Database). d.trees) now ∙ trees in
    record {
      schema = ap (λ (d : Database). d.schema) now;
      written = ap (λ (t : Trees). t table.tree) after ∙ applies.rows ∙ left;
      others = subst (KeepsOthers table.tree db) (sym after) applies.tables;
      sound = w.sound;
    }

-- ---- the rows that an INSERT adds

pub inserts_all : (old new : State) (text : List ℕ) (params : Row) (at : ℕ) (a : Table)
    (terms : List Term) (width : ℕ) (rows : List Row) (count : ℕ) → old.now.schema ≡ store_schema
    → command_of (understood store_schema text) ≡ Insert at (Values terms width) → IsPlain (understood store_schema text) → slice_get store_schema.tables at ≡ Some (bare_table a)
    → (edit_of old.now.trees (bare_table a) [] Chosen 0 (value_rows (stamped (bare_table a) params) width (length terms / width) terms)).news ≡ rows → Executes text params old new (Ok count)
    → Wrote a.tree old new (put_all (old.now.trees a.tree) rows) × (are_fresh (old.now.trees a.tree) rows ≡ true)
inserts_all old new text params at a terms width rows count has is plain found makes h =
    let table = bare_table a in
    let db = old.now.trees in
    let command = Insert at (Values terms width) in
    let w = runs_as text params old new store_schema has command is plain count h in
    let said = statement_of text (understood store_schema text) in
    let begun = subst (λ s. Does old.step_limit (mode_of old) params (record old.now { schema = s }) said None command (Ok (w.tally, new.now))) has w.changed in
    let task : Task = record { limit = old.step_limit; keys = (mode_of old).keys; schema = store_schema; table = table; params = params } in
    let on : OnRows task (mode_of old) None command db (Ok (w.tally, new.now)) =
    subst (λ o. AtPlace (λ t. OnRows (record task { table = t }) (mode_of old) None command db) o (Ok (w.tally, new.now))) found begun in
    let done = went on in
    let now = ap (λ (p : Tally × Database). p.1) (same_value (went (went done.2).2).2) in
    let given = went done.1 in
    let counter = went given.2 in
    let edited_by = went counter.2 in
    let counted = went edited_by.2 in
    let trees : done.0.trees ≡ edited_by.0 = ap (λ (it : Written). it.trees) (same_value counted.2) ∙ same_value counted.1 in
    let edit = edit_of db table [] Chosen 0 given.0 in
    let applies = one_step store_schema _ db edited_by.0 edit refl edited_by.1 in
    let news : edit.news ≡ rows = ap (λ all. (edit_of db table [] Chosen 0 all).news) given.1.1 ∙ makes in
    let after : new.now.trees ≡ edited_by.0 = ap (λ (d : Database). d.trees) now ∙ trees in
    let wrote : Wrote table.tree old new (put_all (db table.tree) rows) = record {
      schema = ap (λ (d : Database). d.schema) now;
      written = ap (λ (t : Trees). t table.tree) after ∙ applies.rows ∙ ap (put_all (db table.tree)) news;
      others = subst (KeepsOthers table.tree db) (sym after) applies.tables;
      sound = w.sound;
    } in
    (wrote, subst (λ l. are_fresh (db table.tree) l ≡ true) news applies.fresh)

-- one row
pub inserts : (old new : State) (text : List ℕ) (params : Row) (at : ℕ) (a : Table)
    (terms : List Term) (width : ℕ) (row : Row) (count : ℕ) → old.now.schema ≡ store_schema
    → command_of (understood store_schema text) ≡ Insert at (Values terms width) → IsPlain (understood store_schema text) → slice_get store_schema.tables at ≡ Some (bare_table a)
    → (edit_of old.now.trees (bare_table a) [] Chosen 0 (value_rows (stamped (bare_table a) params) width (length terms / width) terms)).news ≡ row ∷ [] → Executes text params old new (Ok count)
    → Wrote a.tree old new (put_row row (old.now.trees a.tree)) × (is_taken (old.now.trees a.tree) row ≡ false)
inserts old new text params at a terms width row count has is plain found makes h =
    let made = inserts_all old new text params at a terms width (row ∷ []) count has is plain found makes h in (made.0, fresh_first _ _ made.1)

-- ---- what a column makes of the value that is written to it

either : (b : Bool) (x : Value) → cond b x x ≡ x
either true x = refl
either false x = refl

pub cast_null : cast Integer Null ≡ Null
unfolding unary
cast_null = either _ Null

pub cast_int : (n : ℤ) → cast Integer (Int n) ≡ Int n
unfolding unary
cast_int n = either _ (Int n)
