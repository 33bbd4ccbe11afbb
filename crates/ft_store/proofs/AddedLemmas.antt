-- Why an INSERT is refused, and what the statements that put rows leave room for.
use Rattle.std.proofs.Common.{◌≡◌, ◌≢◌, ◌∙◌, ◌∷◌, ◌||◌, ◌&&◌, ◌⊎◌, ◌≤◌, ◌<◌, ◌+◌, ◌/◌, ◌^◌, ℕ, ℤ, Bool, true, false, not, nat_lt, List, [], length, map, drop, Option, Some, None, Err, inl, inr, refl, sym, ap, subst, arith, IsTrue, true≢false, slice_get, eq-eqb, ne_eqb, is_eq, Ordering, IsSome, option_map, sum_by, int_cmp, ltb-false, ltb-true, Ok, T, Any, MatchBool, if◌then◌else◌, IsUtf8, unwrap_or, flat_map}
use Rattle.ft_store.proofs.Common.{lit, col, first_key, everything, AllByRecursion, list_all, eq_by_cmp, tied_itself, int_cmp_total, find, and_parts}
use Rattle.ft_store.proofs.Common.{false_from_ne_true, both_ways, All-from_recursion, Value, Int, Row, bytes, number, Order, Trees, Table, Term}
use Rattle.ft_store.proofs.Common.{with_tree, rowid, put_row, IsStorable, IsStorableRow, Ne, Insert, Values, Database, RefusesSource, value_rows}
use Rattle.ft_store.proofs.Common.{edit_error, Task, Outcome, Sourced, stamped, Does, OnRows, AtPlace, due, State, mode_of, ExecutesInside}
use Rattle.ft_store.proofs.Common.{understood, IsPlain, command_of, SqliteFailure, Error, Datatype, NotNull, Check, PrimaryKey, Unique, ForeignKey}
use Rattle.ft_store.proofs.Common.{Enforced, agree, clashes, differ, passes, Has, are_unique, Edit, are_fresh, numbered, put_all, have_rowids}
use Rattle.ft_store.proofs.Common.{IsRefused, IsOversized, Chosen, Refusal, Violates, Mismatch, NoRowid, BadReference, TooDeep, Writes, End, Turns}
use Rattle.ft_store.proofs.Common.{unique_kept, some_has, all_has, put_has, put_all_has, put_all_keeps, put_all_adds, IsSound, at_ints, put}
use Rattle.ft_store.proofs.Common.{is_sorted, Null, Text, Blob, value_cmp, binary, Cell, Executes, IsUnchanged, without_case, table_reals}
use Rattle.ft_store.proofs.Common.{index_reals, with_rowid, next_rowid, contains_had, last_term, int_is_number, zero_is_number, column_key_cmp}
use Rattle.ft_store.proofs.Common.{cell_key_cmp, list_key_cmp, name_cmp, StoreValue, without_key, Ghosts, Held, state}
use Rattle.sqlite.specs.declared.error.ErrorCode.TheVariants as code
use lib.Ieee
use Rattle.ft_values.specs.Cells as cells
use Rattle.ft_store.proofs.BlameLemmas.{unless_shut}
use Rattle.ft_store.proofs.StoreTables as tables
use Rattle.std.specs.Int.{bit_at}
use Rattle.std.specs.Float.{NotNan}
use Rattle.std.proofs.lemmas.Nat.Bits.{bit_at-zero}
use Rattle.ft_store.specs.Blame.{IsBlamed}
use Rattle.sqlite_rules.specs.Cast.{cast_row}
use Rattle.ft_store.specs.Tables.{store_schema, cell_table, posting_table}
use Rattle.ft_store.proofs.ChangeLemmas.{bare_table, inserts_all, cast_null, cast_int}
use Rattle.ft_store.specs.Calls.{IsStore, HasOwnRowids, Steps}
use Rattle.ft_store.specs.Puts.{IsFull, AreGrown, IsTooBig, IsBigEntry, IsGrown, KeepsRest}
use Rattle.ft_store.proofs.KeyedLemmas.{some_first, find-keyed, is_sorted-keyed, find-without_key, put-without_key}
use Rattle.ft_store.proofs.TypedLemmas.{IsInt}
use Rattle.ft_store.proofs.AnswerLemmas.{is_whole, sound_of}
use Rattle.ft_store.proofs.RefusedLemmas.{CantDo, write_refused, apart, refers, wrote_grown, rest_of, drop_column, drop_skip, drop_cell, drop_list}
use Rattle.ft_store.proofs.RefusedLemmas.{never_leads, drop_size, drop_note}
use Rattle.ft_store.proofs.CantLemmas.{IsUnnumbered, numbered_ints, stale_full, unfit_full, numbered_grown, trees_same, full_since}
use Rattle.sqlite_schema.specs.declared.schema.Index.{Index}
use Rattle.sqlite_schema.specs.declared.schema.Constraint.{Constraint}
use Rattle.sqlite_sql.specs.Catalog.{entry_of}
use Rattle.ft_store.specs.Rows.{num_of, txt_of, value_of, cell_in}
use Rattle.ft_store.specs.Groups.{PackedList, entry_values}
use Rattle.ft_store.proofs.GroupLemmas.{all_eight}
use Rattle.ft_store.proofs.Texts.{drop_column_text, drop_skip_text, drop_cell_text, drop_list_text, drop_size_text, drop_note_text, add_column_text}
use Rattle.ft_store.proofs.Texts.{add_skip_text, add_cell_text, add_list_text, add_lists_text, add_size_text, add_note_text, IsInsertion}
use Rattle.ft_store.proofs.Texts.{add_cell_terms, add_lists_terms, add_lists_means}
use Rattle.ft_store.proofs.StoreTables.{added_all, StoreTable, then_tie, turned, turned_text, turned_case, cast_num, cast_txt, cast_lists, list_row}
use Rattle.ft_store.proofs.TableLemmas.{text_again}
use Rattle.ft_store.proofs.PutLemmas.{then_step}
use Rattle.ft_rows.specs.Packed.{unpacked}
use Rattle.ft_store.specs.Changes.{TakesRows, PutsRow}

-- ---- what an INSERT is refused for

-- rows that are added, with the rowids that they get
abbrev pub put_in : Table → Trees → List Row → Edit
put_in table db sources = record { table = table; gone = []; news = numbered Chosen (db table.tree) sources }

-- one of them is refused, which is told by this error, or can't be stored
abbrev pub CantAdd : Error → Table → Trees → List Row → Type 0
CantAdd e table db sources =
    ((why : Refusal) × IsRefused store_schema Enforced db (put_in table db sources) why × (e ≡ edit_error why)) ⊎ ((row : Row) × Has (put_in table db sources).news row × IsOversized store_schema table row)

-- the values of an INSERT as the columns of its table take them
abbrev given_rows : Table → List Row → List Row
given_rows table = map (λ s. cast_row table (drop 0 s))

abbrev pub made_rows : Table → List Term → ℕ → Row → List Row
made_rows table terms width params = given_rows table (value_rows (stamped table params) width (length terms / width) terms)

pub never_bad : (adds : Bool) → ((not adds || true) && true) ≡ false → ⊥
never_bad true h = true≢false h
never_bad false h = true≢false h

module _ (a : Table) where
  abbrev the_table : Table
  the_table = bare_table a

  told_by : (e : Error) (stop : Option Error) (why : Option Refusal) (reason : Refusal) → (stop ≡ None) ⊎ (stop ≡ Some e) → stop ≡ option_map edit_error why → ◌≡◌ {A = End} (Err why) (Err (Some reason)) → e ≡ edit_error reason
  told_by e stop why reason (inl none) is same = absurd cc
  told_by e stop why reason (inr some) is same = cc

  wrote_not : (e : Error) (db : Trees) (rows : List Row) (stop : Option Error) (why : Option Refusal) → (stop ≡ None) ⊎ (stop ≡ Some e) → stop ≡ option_map edit_error why → Writes store_schema Enforced db (put_in the_table db (given_rows the_table rows)) (Err why) → CantAdd e the_table db (given_rows the_table rows)
  wrote_not e db rows stop why told is (inl refused) = inl (refused.0, refused.1, told_by e stop why refused.0 told is refused.2)
  wrote_not e db rows stop why told is (inr (inl big)) = inr (big.0, big.1, big.2)
  wrote_not e db rows stop why told is (inr (inr went)) = absurd (never_leads went.2.0 went.0 why went.2.1)

  -- the values that are bound to it are of types that it takes
  abbrev pub IsGiven : List Term → ℕ → Row → Type 0
  IsGiven terms width params = (db : Database) (e : Error) → ¬ RefusesSource None db params (Values terms width) e

  module _ (old : State) (store : IsStore old.now) (params : Row) (at : ℕ) (terms : List Term) (width : ℕ) (found : slice_get store_schema.tables at ≡ Some the_table) (given : IsGiven terms width (stamped the_table params)) where
    sourced : (db : Database) (e : Error) → RefusesSource old.step_limit db (stamped the_table params) (Values terms width) e → IsSome old.step_limit
    sourced db e (inl bad) = absurd (given db e (inl bad))
    sourced db e (inr limited) = limited.1

    sourced_not : (db : Database) (stop : Option Error) → Sourced old.step_limit db (stamped the_table params) (Values terms width) (Err stop) → IsSome old.step_limit
    sourced_not db None h = absurd h
    sourced_not db (Some e) h = sourced db e h

    same_stop : {A : Type 0} {a b : Option Error} → ◌≡◌ {A = Outcome A} (Err a) (Err b) → a ≡ b
    same_stop h = cc

    pub insert_why : (e : Error) → CantDo e old params (Insert at (Values terms width)) → IsSome old.step_limit ⊎ CantAdd e the_table old.now.trees (made_rows the_table terms width params)
    insert_why e (text, stop, told, does) =
        let db = old.now.trees in
        let command = Insert at (Values terms width) in
        let task : Task = record { limit = old.step_limit; keys = (mode_of old).keys; schema = store_schema; table = the_table; params = params } in
        let begun = subst (λ c. Does old.step_limit (mode_of old) params (record old.now { schema = c }) text None command (Err stop)) store.schema does in
        let on : OnRows task (mode_of old) None command db (Err stop) = subst (λ o. AtPlace (λ t. OnRows (record task { table = t }) (mode_of old) None command db) o (Err stop)) found begun in
        elim on [
          | inl writes ↦ elim writes.1 [
            | inl asked ↦ inl (sourced_not (record { schema = store_schema; trees = db }) asked.0 asked.1)
            | inr asked ↦ elim asked.2 [
              | inl counter ↦ absurd (let e = counter.1 in cc)
              | inr counter ↦ elim counter.2 [
                | inl wrote ↦ (let same : stop ≡ wrote.0 = same_stop writes.2 ∙ same_stop wrote.2 in inr (subst (λ rows. CantAdd e the_table db (given_rows the_table rows)) asked.1.1 (wrote_not e db asked.0 stop wrote.1.0 told (same ∙ wrote.1.2) wrote.1.1)))
                | inr wrote ↦ absurd (elim wrote.2 [
                  | inl counted ↦ (let e = counted.1 in cc)
                  | inr counted ↦ (let e = counted.2 in cc)
                ])
              ]
            ]
          ]
          | inr wrote ↦ absurd (elim wrote.2 [
            | inl tested ↦ tested.1.0 (refers (due (mode_of old)) wrote.0.trees)
            | inr tested ↦ elim tested.2 [
              | inl shown ↦ (let e = shown.1 in cc)
              | inr shown ↦ (let e = shown.2 in cc)
            ]
          ])
        ]

  -- what a statement that adds rows to an open store is refused for, unless by what lies outside it
  module _ (old new : State) (sql : List ℕ) (params : Row) (at : ℕ) (terms : List Term) (width : ℕ) (is : command_of (understood store_schema sql) ≡ Insert at (Values terms width)) (plain : IsPlain (understood store_schema sql))
      (whole : is_whole sql (length params) (understood store_schema sql) ≡ true) (found : slice_get store_schema.tables at ≡ Some the_table) (given : IsGiven terms width (stamped the_table params)) where
    pub insert_blamed : (IsTrue old.is_open → IsStore old.now) → (e : Error) → e ≢ SqliteFailure code.OutOfMemory → ExecutesInside 0 sql params old new (Err e)
        → IsBlamed old new ⊎ (IsTrue old.is_open × CantAdd e the_table old.now.trees (made_rows the_table terms width params))
    insert_blamed store e other ran = unless_shut old new inl (λ is_open.
        let kept = store is_open in
        elim (write_refused old new sql params kept.schema _ is plain whole tt refl e other ran) [
          | inl blamed ↦ inl blamed
          | inr cant ↦ elim (insert_why old kept params at terms width found given e cant) [ inl limit ↦ inl (inr (inr limit)) | inr add ↦ inr (is_open, add) ]
        ])

  -- the rows are put beside those that are there
  module _ (listed : Has store_schema.tables the_table) (db : Trees) (news : List Row) where
    here : (es : List Row) → with_tree db a.tree es a.tree ≡ es
    here es = rw (eq-eqb a.tree a.tree refl) refl

    pub turns : are_fresh (db a.tree) news ≡ true → Turns store_schema db (with_tree db a.tree (put_all (db a.tree) news)) the_table (db a.tree) [] news
    turns fresh = record {
      apart = apart;
      listed = listed;
      others = λ t known other. rw (ne_eqb t.tree a.tree other) refl;
      from = λ r h. put_all_has news (db a.tree) r (subst (λ l. Has l r) (here _) h);
      stays = λ r h. subst (λ l. Has l r) (sym (here _)) (put_all_keeps news (db a.tree) r fresh h);
      added = λ r h. subst (λ l. Has l r) (sym (here _)) (put_all_adds news (db a.tree) r fresh h);
      was = λ r h. h;
      split = λ r h. inl h;
    }

  -- ---- which rules the rows break

  module _ (listed : Has store_schema.tables the_table) (db : Trees) (sound : IsSound store_schema db) (own : HasOwnRowids (db a.tree)) (sources : List Row) (bare : AllByRecursion IsUnnumbered sources) where
    abbrev pub news : List Row
    news = numbered Chosen (db a.tree) sources

    abbrev pub next : Trees
    next = with_tree db a.tree (put_all (db a.tree) news)

    int_each : (es : List Row) → AllByRecursion IsInt es → have_rowids es ≡ true
    int_each [] all = refl
    int_each (e ∷ es) all = rw all.0 (int_each es all.1)

    module _ (typed : list_all (passes Datatype store_schema db the_table) news ≡ true) (present : list_all (passes NotNull store_schema db the_table) news ≡ true) (checked : list_all (passes Check store_schema db the_table) news ≡ true) where
      -- the table is full, or a key comes twice
      pub refused_why : (why : Refusal) → IsRefused store_schema Enforced db (put_in the_table db sources) why → IsFull (length sources) (db a.tree) ⊎ ((why ≡ Violates Unique) × (are_unique store_schema.indexes next the_table news ≡ false))
      refused_why (Violates Datatype) h = absurd (both_ways _ h typed)
      refused_why (Violates NotNull) h = absurd (both_ways _ h present)
      refused_why (Violates Check) h = absurd (both_ways _ h checked)
      refused_why (Violates PrimaryKey) h = inl (stale_full sources (db a.tree) own.1 bare h)
      refused_why (Violates Unique) h = by_fresh (are_fresh (db a.tree) news) refl
        where
          by_unique : are_fresh (db a.tree) news ≡ true → (b : Bool) → are_unique store_schema.indexes next the_table news ≡ b → IsFull (length sources) (db a.tree) ⊎ ((Violates Unique ≡ Violates Unique) × (are_unique store_schema.indexes next the_table news ≡ false))
          by_unique fresh true is = absurd (h (unique_kept store_schema db next the_table _ _ news (turns listed db news fresh) is (sound.obeys.rules Unique)))
          by_unique fresh false is = inr (refl, is)

          by_fresh : (b : Bool) → are_fresh (db a.tree) news ≡ b → IsFull (length sources) (db a.tree) ⊎ ((Violates Unique ≡ Violates Unique) × (are_unique store_schema.indexes next the_table news ≡ false))
          by_fresh true is = by_unique is (are_unique store_schema.indexes next the_table news) refl
          by_fresh false is = inl (stale_full sources (db a.tree) own.1 bare is)
      refused_why (Violates ForeignKey) h = absurd h
      refused_why Mismatch h = absurd (both_ways _ h (int_each news (numbered_ints sources (db a.tree) bare)))
      refused_why NoRowid h = inl (unfit_full sources (db a.tree) own.1 bare h)
      refused_why BadReference h = absurd (never_bad (nat_lt 0 (length news)) h)
      refused_why TooDeep h = absurd h

-- ---- a key that is free

pub same_not_differ : (v : Value) (n : ℤ) → v ≡ Int n → differ v v ≡ false
same_not_differ v n is = ap (λ w. differ w w) is ∙ at_ints false Ne n n ∙ (let e : is_eq (int_cmp n n) ≡ true = ap is_eq (tied_itself int_cmp_total n) in ap not e)

module _ {K X : Type 0} (R : K → K → Ordering) (entry : Row → K × X) where
  not_among : (key : K) (rows : List Row) → find R key (map entry rows) ≡ None → (r : Row) → Has rows r → eq_by_cmp R key (entry r).0 ≡ false
  not_among key [] none r h = absurd h
  not_among key (s ∷ rows) none r (inl same) = ap (λ x. eq_by_cmp R key (entry x).0) same ∙ (some_first (eq_by_cmp R key (entry s).0) (entry s).1 (find R key (map entry rows)) none).0
  not_among key (s ∷ rows) none r (inr later) = not_among key rows (some_first (eq_by_cmp R key (entry s).0) (entry s).1 (find R key (map entry rows)) none).1 r later

  -- no other row has the key of a new row
  pub no_clash : (order : Order) (places : List ℕ) (P : Row → Type 0) (new : Row) (n : ℤ) (rows : List Row) → rowid new ≡ Int n → AllByRecursion P rows → ((r : Row) → P r → agree order places r places new ≡ eq_by_cmp R (entry new).0 (entry r).0)
      → find R (entry new).0 (map entry rows) ≡ None → clashes order places (put_row new rows) new ≡ false
  no_clash order places P new n rows is typed agrees none = false_from_ne_true (clashes order places (put_row new rows) new) (λ clash.
      let other = some_has _ _ clash in
      let parts = and_parts _ _ other.2 in
      elim (put_has new rows other.0 other.1) [
        | inl same ↦ both_ways _ (subst (λ r. differ (rowid r) (rowid new) ≡ false) (sym same) (same_not_differ (rowid new) n is)) parts.1
        | inr before ↦ both_ways _ (agrees other.0 (all_has P rows other.0 typed before) ∙ not_among (entry new).0 rows none other.0 before) parts.0
      ])

-- ---- a row that can be stored

abbrev pub IsNumber : Value → Type 0
IsNumber v = NotNan (number v)

abbrev pub room : List Value → ℕ
room = sum_by (λ v. 18 + length (bytes v))

unset : (c : ℕ) → bit_at 0 c ≡ 1 → ⊥
unset c h = let e = bit_at-zero c in omega (arith, h, e)

pub can_store : (row : Row) → AllByRecursion IsNumber row → (0 < length row) × (length row ≤ 2001) → room row ≤ 10 ^ 9 → IsStorable 0 row
can_store row numbers columns short = record { typed = λ c h. absurd (unset c h); columns = columns; numbers = All-from_recursion IsNumber row numbers; short = short }

-- so is one that is short, and its entry in an index
pub too_big : (row : Row) (entry : Row) → AllByRecursion IsNumber row → AllByRecursion IsNumber entry → (1 < length row) × (length row ≤ 2001) → (0 < length entry) × (length entry ≤ 2001) → room entry ≤ room row
    → (¬ IsStorableRow 0 row) ⊎ (¬ IsStorable 0 entry) → 10 ^ 9 < room row
too_big row entry numbers keys long wide less bad = by (nat_lt (10 ^ 9) (room row)) refl
  where
    by : (b : Bool) → nat_lt (10 ^ 9) (room row) ≡ b → 10 ^ 9 < room row
    by true is = ltb-true _ _ is
    by false is =
        let short = ltb-false (10 ^ 9) (room row) is in
        absurd (elim bad [
          | inl one ↦ one (can_store row numbers (omega (arith, long.0), long.1) short, long.0)
          | inr two ↦ two (can_store entry keys wide (omega (arith, short, less)))
        ])

-- ---- what is put

-- what is too big in a row: the row, or its entry in the one index of its table
pub oversized_why : (table : Table) (cols : List ℕ) → AllByRecursion (λ (i : Index). i.table ≡ table.tree → i.columns ≡ cols) store_schema.indexes → table_reals table ≡ 0 → index_reals 0 cols ≡ 0
    → (row : Row) → IsOversized store_schema table row → (¬ IsStorableRow 0 row) ⊎ (¬ IsStorable 0 (entry_of cols row))
oversized_why table cols own plain bare row (inl big) = inl (subst (λ n. ¬ IsStorableRow n row) plain big)
oversized_why table cols own plain bare row (inr (i, has, on, big)) =
    inr (subst (λ n. ¬ IsStorable n (entry_of cols row)) bare (subst (λ n. ¬ IsStorable (index_reals n cols) (entry_of cols row)) plain (subst (λ c. ¬ IsStorable (index_reals (table_reals table) c) (entry_of c row)) (all_has (λ (j : Index). j.table ≡ table.tree → j.columns ≡ cols) store_schema.indexes i own has on) big)))

module _ (a : Table) where
  abbrev its_table : Table
  its_table = bare_table a

  insert_grown : (old new : State) (text : List ℕ) (params : Row) (at : ℕ) (terms : List Term) (width : ℕ) (sources : List Row) (count : ℕ) → old.now.schema ≡ store_schema
      → command_of (understood store_schema text) ≡ Insert at (Values terms width) → IsPlain (understood store_schema text) → slice_get store_schema.tables at ≡ Some its_table
      → made_rows its_table terms width params ≡ sources → AllByRecursion IsUnnumbered sources → HasOwnRowids (old.now.trees a.tree) → Executes text params old new (Ok count)
      → AreGrown (length sources) old.now.trees new.now.trees
  insert_grown old new text params at terms width sources count has is plain found makes bare own h =
      let rows = old.now.trees a.tree in
      let made = inserts_all old new text params at a terms width (numbered Chosen rows sources) count has is plain found (ap (numbered Chosen rows) makes) h in
      wrote_grown a.tree (length sources) old new _ made.0 (numbered_grown sources rows own.1 bare)

  -- why one row is not added, where its key is free
  module _ (listed : Has store_schema.tables its_table) (db : Trees) (sound : IsSound store_schema db) (own : HasOwnRowids (db a.tree)) (source : Row) (bare : IsUnnumbered source) where
    abbrev new_row : Row
    new_row = with_rowid Chosen (db a.tree) source

    one_why : list_all (passes Datatype store_schema db its_table) (new_row ∷ []) ≡ true → list_all (passes NotNull store_schema db its_table) (new_row ∷ []) ≡ true → list_all (passes Check store_schema db its_table) (new_row ∷ []) ≡ true
        → are_unique store_schema.indexes (with_tree db a.tree (put_row new_row (db a.tree))) its_table (new_row ∷ []) ≡ true
        → (e : Error) → CantAdd e its_table db (source ∷ []) → IsFull 1 (db a.tree) ⊎ IsOversized store_schema its_table new_row
    one_why typed present checked unique e (inl refused) = elim (refused_why a listed db sound own (source ∷ []) (bare, tt) typed present checked refused.0 refused.1) [
      | inl full ↦ inl full
      | inr twice ↦ absurd (both_ways _ twice.1 unique)
    ]
    one_why typed present checked unique e (inr (row, inl same, big)) = inr (subst (IsOversized store_schema its_table) same big)
    one_why typed present checked unique e (inr (row, inr none, big)) = absurd none

-- what a statement that adds rows is refused for
abbrev pub RunBlamed : State → State → List ℕ → Row → Type 0 → Type 0
RunBlamed old new sql params Why =
    (IsTrue old.is_open → IsStore old.now) → (e : Error) × (e ≢ SqliteFailure code.OutOfMemory) × ExecutesInside 0 sql params old new (Err e) → IsBlamed old new ⊎ Why

-- ---- one row

-- too big a row of a table, whose key is indexed
oversized : {K X : Type 0} {P : Row → Type 0} (t : StoreTable K X P) (row : Row) → table_reals (bare_table t.table) ≡ 0 → index_reals 0 t.places ≡ 0 → AllByRecursion IsNumber row → AllByRecursion IsNumber (entry_of t.places row)
    → (1 < length row) × (length row ≤ 2001) → (0 < length (entry_of t.places row)) × (length (entry_of t.places row) ≤ 2001) → room (entry_of t.places row) ≤ room row → IsOversized store_schema (bare_table t.table) row → 10 ^ 9 < room row
oversized t row plain_table bare numbers keys long wide less big = too_big row (entry_of t.places row) numbers keys long wide less (oversized_why (bare_table t.table) t.places t.index plain_table bare row big)

-- the rules that a row obeys by itself
abbrev IsPassed : Table → Trees → List Row → Type 0
IsPassed table db rows = (list_all (passes Datatype store_schema db table) rows ≡ true) × (list_all (passes NotNull store_schema db table) rows ≡ true) × (list_all (passes Check store_schema db table) rows ≡ true)

-- A statement adds one row to a table: what the columns make of its parameters, the entry of the row,
-- and why a rule of the table does not refuse it where its key is free. More than so many values with
-- so many bytes are too big.
pub record AddsRow {K X : Type 0} {P : Row → Type 0} (t : StoreTable K X P) (text : List ℕ) (params : Row) (key : K) (x : X) (values count : ℕ) : Type 0 where
  pub terms : List Term
  pub width : ℕ
  pub row : Row
  pub means : IsInsertion t.at terms width text (length params)
  pub made : made_rows (bare_table t.table) terms width params ≡ (Null ∷ row) ∷ []
  pub given : IsGiven (bare_table t.table) terms width (stamped (bare_table t.table) params)
  pub entry : (id : ℤ) → t.entry (Int id ∷ row) ≡ (key, x)
  pub agrees : (id : ℤ) (r : Row) → P r → agree t.order t.places r t.places (Int id ∷ row) ≡ eq_by_cmp t.cmp key (t.entry r).0
  pub passed : (db : Trees) (id : ℤ) → IsPassed (bare_table t.table) db ((Int id ∷ row) ∷ [])
  pub big : (id : ℤ) → IsOversized store_schema (bare_table t.table) (Int id ∷ row) → IsTooBig values count

module _ {K X : Type 0} {P : Row → Type 0} (t : StoreTable K X P) (text : List ℕ) (params : Row) (key : K) (x : X) (values count : ℕ) (it : AddsRow t text params key x values count) where
  abbrev IsFree : State → Type 0
  IsFree s = find t.cmp key (t.rows (value_of s.now.trees)) ≡ None

  adds : (old new : State) (n : ℕ) → IsStore old.now → ExecutesInside 0 text params old new (Ok n)
      → Steps old new (t.with_rows (put t.cmp key x (t.rows (value_of old.now.trees))) (value_of old.now.trees)) × AreGrown 1 old.now.trees new.now.trees × KeepsRest t.table.tree old.now.trees new.now.trees
  adds old new n kept ran =
      let rows = old.now.trees t.table.tree in
      let v = value_of old.now.trees in
      let id = next_rowid rows in
      let news = (Int id ∷ it.row) ∷ [] in
      let made = inserts_all old new text params t.at t.table it.terms it.width news n kept.schema it.means.is it.means.plain t.found (ap (numbered Chosen rows) it.made) ran.0 in (
        subst (λ (e : K × X). Steps old new (t.with_rows (put t.cmp e.0 e.1 (t.rows v)) v)) (it.entry id) (added_all old new kept ran.1 t news (refl, tt) made),
        wrote_grown t.table.tree 1 old new _ made.0 (numbered_grown ((Null ∷ it.row) ∷ []) rows (t.own old.now.trees kept.numbered).1 (refl, tt)),
        rest_of t.table.tree old.now.trees new.now.trees made.0.others,
      )

  cant_why : (s : State) → IsStore s.now → IsFree s → (e : Error) → CantAdd e (bare_table t.table) s.now.trees ((Null ∷ it.row) ∷ []) → IsFull 1 (s.now.trees t.table.tree) ⊎ IsTooBig values count
  cant_why s kept free e cant =
      let db = s.now.trees in
      let rows = db t.table.tree in
      let sound = sound_of s kept in
      let own = t.own db kept.numbered in
      let id = next_rowid rows in
      let row = Int id ∷ it.row in
      let agrees = λ (r : Row) (h : P r). it.agrees id r h ∙ ap (λ (e : K × X). eq_by_cmp t.cmp e.0 (t.entry r).0) (sym (it.entry id)) in
      let none = ap (λ (e : K × X). find t.cmp e.0 (map t.entry rows)) (it.entry id) ∙ sym (find-keyed t.cmp t.total t.tie key (map t.entry rows)) ∙ ap (find t.cmp key) (sym (t.are db)) ∙ free in
      let clash = no_clash t.cmp t.entry t.order t.places P row id rows refl (t.typed db sound own) agrees none in
      elim (one_why t.table t.listed db sound own (Null ∷ it.row) refl (it.passed db id).0 (it.passed db id).1 (it.passed db id).2 (t.unique_if db (put_row row rows) row clash) e cant) [
        | inl full ↦ inl full
        | inr big ↦ inr (it.big id big)
      ]

  add_why : (old new : State) → IsStore old.now → IsFree old → (e : Error) × (e ≢ SqliteFailure code.OutOfMemory) × ExecutesInside 0 text params old new (Err e)
      → IsBlamed old new ⊎ (IsFull 1 (old.now.trees t.table.tree) ⊎ IsTooBig values count)
  add_why old new kept free (e, other, ran) =
      elim (insert_blamed t.table old new text params t.at it.terms it.width it.means.is it.means.plain it.means.whole t.found it.given (λ _. kept) e other ran) [
        | inl blamed ↦ inl blamed
        | inr cant ↦ inr (cant_why old kept free e (subst (CantAdd e (bare_table t.table) old.now.trees) it.made cant.1))
      ]

  -- the same, whether its key is free or not, of what no rule of the table refuses
  cant_unruled : (s : State) → IsStore s.now → (e : Error) → ((rule : Constraint) → e ≢ SqliteFailure (code.ConstraintViolation rule)) → CantAdd e (bare_table t.table) s.now.trees ((Null ∷ it.row) ∷ [])
      → IsFull 1 (s.now.trees t.table.tree) ⊎ IsTooBig values count
  cant_unruled s kept e unruled (inl refused) =
      let db = s.now.trees in
      let passed = it.passed db (next_rowid (db t.table.tree)) in
      elim (refused_why t.table t.listed db (sound_of s kept) (t.own db kept.numbered) ((Null ∷ it.row) ∷ []) (refl, tt) passed.0 passed.1 passed.2 refused.0 refused.1) [
        | inl full ↦ inl full
        | inr twice ↦ absurd (unruled Unique (refused.2 ∙ ap edit_error twice.0))
      ]
  cant_unruled s kept e unruled (inr (row, inl same, big)) = inr (it.big (next_rowid (s.now.trees t.table.tree)) (subst (IsOversized store_schema (bare_table t.table)) same big))
  cant_unruled s kept e unruled (inr (row, inr none, big)) = absurd none

  add_fails : (old new : State) → (IsTrue old.is_open → IsStore old.now)
      → (e : Error) × (e ≢ SqliteFailure code.OutOfMemory) × ((rule : Constraint) → e ≢ SqliteFailure (code.ConstraintViolation rule)) × ExecutesInside 0 text params old new (Err e)
      → IsBlamed old new ⊎ (IsFull 1 (old.now.trees t.table.tree) ⊎ IsTooBig values count)
  add_fails old new store (e, other, unruled, ran) =
      elim (insert_blamed t.table old new text params t.at it.terms it.width it.means.is it.means.plain it.means.whole t.found it.given store e other ran) [
        | inl blamed ↦ inl blamed
        | inr cant ↦ inr (cant_unruled old (store cant.0) e unruled (subst (CantAdd e (bare_table t.table) old.now.trees) it.made cant.1))
      ]

  -- put in place of what has its key
  module _ {S : Type 0} (g : Ghosts S) where
    abbrev gone : StoreValue → StoreValue
    gone v = t.with_rows (without_key t.cmp key (t.rows v)) v

    free_key : (old mid : Held S) → Steps (state g old) (state g mid) (gone (value_of (state g old).now.trees)) → IsFree (state g mid)
    free_key old mid one =
        let was = t.rows (value_of (state g old).now.trees) in
        ap (λ (v : StoreValue). find t.cmp key (t.rows v)) one.is ∙ ap (find t.cmp key) (t.got (without_key t.cmp key was) (value_of (state g old).now.trees)) ∙ find-without_key t.cmp t.total t.tie key was

    put_steps : (old mid new : Held S) → Steps (state g old) (state g mid) (gone (value_of (state g old).now.trees))
        → Steps (state g mid) (state g new) (t.with_rows (put t.cmp key x (t.rows (value_of (state g mid).now.trees))) (value_of (state g mid).now.trees))
        → Steps (state g old) (state g new) (t.with_rows (put t.cmp key x (t.rows (value_of (state g old).now.trees))) (value_of (state g old).now.trees))
    put_steps old mid new one two =
        let db = (state g old).now.trees in
        let was = value_of db in
        let rest = without_key t.cmp key (t.rows was) in
        let sorted = subst (λ l. T (is_sorted t.cmp l)) (sym (t.are db)) (is_sorted-keyed t.cmp t.total t.tie (map t.entry (db t.table.tree))) in
        subst (Steps (state g old) (state g new)) (ap (λ l. t.with_rows (put t.cmp key x l) (t.with_rows rest was)) (t.got rest was) ∙ t.set rest _ was ∙ ap (λ l. t.with_rows l was) (put-without_key t.cmp t.total t.tie key x (t.rows was) sorted))
        (then_step (state g old) (state g mid) (state g new) _ (λ v. t.with_rows (put t.cmp key x (t.rows v)) v) one two)

    pub replaces : (drop : List ℕ) (keyed_by : Row) → TakesRows g drop keyed_by t.table.tree gone → ((a b : Trees) → AreGrown 0 a b → IsGrown 0 (a t.table.tree) (b t.table.tree))
        → PutsRow g drop text keyed_by params t.table.tree (λ v. t.with_rows (put t.cmp key x (t.rows v)) v) values count
    replaces drop keyed_by taken grows = record {
      lands = λ old new n store ran. adds (state g old) (state g new) n store ran;
      fails = λ old new store why. add_fails (state g old) (state g new) store why;
      gone = gone;
      takes = taken;
      adds = λ old mid new n one ran.
          let more = adds (state g mid) (state g new) n one.store ran in (put_steps old mid new one more.0, more.1, more.2);
      refused = λ old mid new one grown why. elim (add_why (state g mid) (state g new) one.store (free_key old mid one) why) [
        | inl blamed ↦ inl blamed
        | inr (inl full) ↦ inr (inl (full_since 0 1 ((state g old).now.trees t.table.tree) ((state g mid).now.trees t.table.tree) (grows (state g old).now.trees (state g mid).now.trees grown) full))
        | inr (inr big) ↦ inr (inr big)
      ];
    }

-- ---- the rows

num_number : (v : Cell) → IsNumber (num_of v)
num_number cells.Null = zero_is_number
num_number (cells.Int n) = int_is_number n
num_number (cells.Text t) = zero_is_number

txt_number : (v : Cell) → IsNumber (txt_of v)
txt_number cells.Null = zero_is_number
txt_number (cells.Int n) = zero_is_number
txt_number (cells.Text t) = zero_is_number

num_empty : (v : Cell) → length (bytes (num_of v)) ≡ 0
num_empty cells.Null = refl
num_empty (cells.Int n) = refl
num_empty (cells.Text t) = refl

cell_typed : (db : Trees) (rowid tab docid at : ℤ) (v : Cell) → list_all (passes Datatype store_schema db (cell_table 5)) ((Int rowid ∷ Int tab ∷ Int docid ∷ Int at ∷ num_of v ∷ txt_of v ∷ []) ∷ []) ≡ true
cell_typed db rowid tab docid at cells.Null = refl
cell_typed db rowid tab docid at (cells.Int n) = refl
cell_typed db rowid tab docid at (cells.Text t) = refl

-- one of its two columns is NULL
cell_checked : (db : Trees) (rowid tab docid at : ℤ) (v : Cell) → list_all (passes Check store_schema db (cell_table 5)) ((Int rowid ∷ Int tab ∷ Int docid ∷ Int at ∷ num_of v ∷ txt_of v ∷ []) ∷ []) ≡ true
unfolding binary value_cmp Ieee.is_nan Ieee.lt
cell_checked db rowid tab docid at cells.Null = refl
cell_checked db rowid tab docid at (cells.Int n) = refl
cell_checked db rowid tab docid at (cells.Text t) = refl

cell_given : (tab docid at : ℤ) (v : Cell) (db : Database) (e : Error) → ¬ RefusesSource None db (Int tab ∷ Int docid ∷ Int at ∷ num_of v ∷ txt_of v ∷ []) (Values add_cell_terms 6) e
cell_given tab docid at cells.Null db e h = elim h [ inl bad ↦ true≢false bad.1 | inr limit ↦ true≢false (sym limit.1) ]
cell_given tab docid at (cells.Int n) db e h = elim h [ inl bad ↦ true≢false bad.1 | inr limit ↦ true≢false (sym limit.1) ]
cell_given tab docid at (cells.Text t) db e h = elim h [ inl bad ↦ true≢false bad.1 | inr limit ↦ true≢false (sym limit.1) ]

column_row : (tab at : ℤ) (name : List ℕ) → IsUtf8 name → AddsRow tables.columns add_column_text (Int tab ∷ Int at ∷ Text name ∷ []) (tab, at) name 4 (length name)
unfolding first_key
column_row tab at name text = record {
  terms = lit Null ∷ col 0 0 ∷ col 0 1 ∷ col 0 2 ∷ [];
  width = 4;
  row = Int tab ∷ Int at ∷ Text name ∷ [];
  means = unfold understood everything in (record { is = refl; plain = (refl, refl); whole = refl });
  made = rw (cast_null, cast_int tab, cast_int at) refl;
  given = λ db e h. elim h [ inl bad ↦ true≢false bad.1 | inr limit ↦ true≢false (sym limit.1) ];
  entry = λ id. ap (λ n. ((tab, at), n)) (text_again name text);
  agrees = λ id r h. then_tie _ _ (turned _ _ _ _ h.tab refl) (last_term (turned _ _ _ _ h.at refl));
  passed = λ db id. (refl, refl, refl);
  big = λ id over.
      let all = oversized tables.columns (Int id ∷ Int tab ∷ Int at ∷ Text name ∷ []) refl refl (int_is_number id, (int_is_number tab, (int_is_number at, (zero_is_number, tt)))) (int_is_number tab, (int_is_number at, (int_is_number id, tt))) (omega arith, omega arith) (omega arith, omega arith) (omega arith) over in omega (arith, all);
}

skip_row : (tab at : ℤ) → AddsRow tables.skipped add_skip_text (Int tab ∷ Int at ∷ []) (tab, at) tt 3 0
unfolding understood everything
skip_row tab at = record {
  terms = _;
  width = 3;
  row = Int tab ∷ Int at ∷ [];
  means = record { is = refl; plain = (refl, refl); whole = refl };
  made = rw (cast_null, cast_int tab, cast_int at) refl;
  given = λ db e h. elim h [ inl bad ↦ true≢false bad.1 | inr limit ↦ true≢false (sym limit.1) ];
  entry = λ id. refl;
  agrees = λ id r h. then_tie _ _ (turned _ _ _ _ h.tab refl) (last_term (turned _ _ _ _ h.at refl));
  passed = λ db id. (refl, refl, refl);
  big = λ id over.
      let all = oversized tables.skipped (Int id ∷ Int tab ∷ Int at ∷ []) refl refl (int_is_number id, (int_is_number tab, (int_is_number at, tt))) (int_is_number tab, (int_is_number at, (int_is_number id, tt))) (omega arith, omega arith) (omega arith, omega arith) (omega arith) over in omega (arith, all);
}

cell_row : (tab docid at : ℤ) (v : Cell) → cell_in (num_of v) (txt_of v) ≡ v → AddsRow tables.cells add_cell_text (Int tab ∷ Int docid ∷ Int at ∷ num_of v ∷ txt_of v ∷ []) (tab, docid, at) v 6 (length (bytes (txt_of v)))
unfolding first_key
cell_row tab docid at v again = record {
  terms = add_cell_terms;
  width = 6;
  row = Int tab ∷ Int docid ∷ Int at ∷ num_of v ∷ txt_of v ∷ [];
  means = unfold understood everything in (record { is = refl; plain = (refl, refl); whole = refl });
  made = rw (cast_null, cast_int tab, cast_int docid, cast_int at, cast_num v, cast_txt v) refl;
  given = cell_given tab docid at v;
  entry = λ id. ap (λ c. ((tab, docid, at), c)) again;
  agrees = λ id r h. then_tie _ _ (turned _ _ _ _ h.tab refl) (then_tie _ _ (turned _ _ _ _ h.docid refl) (last_term (turned _ _ _ _ h.at refl)));
  passed = λ db id. (cell_typed db id tab docid at v, refl, cell_checked db id tab docid at v);
  big = λ id over.
      let all = oversized tables.cells (Int id ∷ Int tab ∷ Int docid ∷ Int at ∷ num_of v ∷ txt_of v ∷ []) refl refl (int_is_number id, (int_is_number tab, (int_is_number docid, (int_is_number at, (num_number v, (txt_number v, tt)))))) (int_is_number tab, (int_is_number docid, (int_is_number at, (int_is_number id, tt)))) (omega arith, omega arith) (omega arith, omega arith) (omega (arith, num_empty v)) over in (let none = num_empty v in omega (arith, all, none));
}

list_big : (id tab : ℤ) (term : List ℕ) (docid : ℤ) (list : List ℕ) → IsOversized store_schema (posting_table 7) (Int id ∷ Int tab ∷ Text term ∷ Int docid ∷ Blob list ∷ []) → IsTooBig 5 (length term + length list)
list_big id tab term docid list over =
    let all = oversized tables.lists (Int id ∷ Int tab ∷ Text term ∷ Int docid ∷ Blob list ∷ []) refl refl (int_is_number id, (int_is_number tab, (zero_is_number, (int_is_number docid, (zero_is_number, tt))))) (int_is_number tab, (zero_is_number, (int_is_number docid, (int_is_number id, tt)))) (omega arith, omega arith) (omega arith, omega arith) (omega arith) over in omega (arith, all)

list_adds : (tab : ℤ) (term : List ℕ) (docid : ℤ) (list : List ℕ) → AddsRow tables.lists add_list_text (Int tab ∷ Text term ∷ Int docid ∷ Blob list ∷ []) (tab, term, docid) (unwrap_or (unpacked list) []) 5 (length term + length list)
unfolding first_key
list_adds tab term docid list = record {
  terms = lit Null ∷ col 0 0 ∷ col 0 1 ∷ col 0 2 ∷ col 0 3 ∷ [];
  width = 5;
  row = Int tab ∷ Text term ∷ Int docid ∷ Blob list ∷ [];
  means = unfold understood everything in (record { is = refl; plain = (refl, refl); whole = refl });
  made = rw (cast_null, cast_int tab, cast_int docid) refl;
  given = λ db e h. elim h [ inl bad ↦ true≢false bad.1 | inr limit ↦ true≢false (sym limit.1) ];
  entry = λ id. refl;
  agrees = λ id r h. then_tie _ _ (turned _ _ _ _ h.tab refl) (then_tie _ _ (turned_text _ _ _ _ h.term refl) (last_term (turned _ _ _ _ h.docid refl)));
  passed = λ db id. (refl, refl, refl);
  big = λ id. list_big id tab term docid list;
}

size_row : (tab docid at n : ℤ) → AddsRow tables.sizes add_size_text (Int tab ∷ Int docid ∷ Int at ∷ Int n ∷ []) (tab, docid, at) n 5 0
unfolding first_key
size_row tab docid at n = record {
  terms = lit Null ∷ col 0 0 ∷ col 0 1 ∷ col 0 2 ∷ col 0 3 ∷ [];
  width = 5;
  row = Int tab ∷ Int docid ∷ Int at ∷ Int n ∷ [];
  means = unfold understood everything in (record { is = refl; plain = (refl, refl); whole = refl });
  made = rw (cast_null, cast_int tab, cast_int docid, cast_int at, cast_int n) refl;
  given = λ db e h. elim h [ inl bad ↦ true≢false bad.1 | inr limit ↦ true≢false (sym limit.1) ];
  entry = λ id. refl;
  agrees = λ id r h. then_tie _ _ (turned _ _ _ _ h.tab refl) (then_tie _ _ (turned _ _ _ _ h.docid refl) (last_term (turned _ _ _ _ h.at refl)));
  passed = λ db id. (refl, refl, refl);
  big = λ id over.
      let all = oversized tables.sizes (Int id ∷ Int tab ∷ Int docid ∷ Int at ∷ Int n ∷ []) refl refl (int_is_number id, (int_is_number tab, (int_is_number docid, (int_is_number at, (int_is_number n, tt))))) (int_is_number tab, (int_is_number docid, (int_is_number at, (int_is_number id, tt)))) (omega arith, omega arith) (omega arith, omega arith) (omega arith) over in omega (arith, all);
}

note_row : (name : List ℕ) → AddsRow tables.noted add_note_text (Text name ∷ []) (without_case name) name 2 (length name)
unfolding understood everything
note_row name = record {
  terms = _;
  width = 2;
  row = Text name ∷ [];
  means = record { is = refl; plain = (refl, refl); whole = refl };
  made = rw (cast_null) refl;
  given = λ db e h. elim h [ inl bad ↦ true≢false bad.1 | inr limit ↦ true≢false (sym limit.1) ];
  entry = λ id. refl;
  agrees = λ id r h. last_term (turned_case _ _ _ _ h.name refl);
  passed = λ db id. (refl, refl, refl);
  big = λ id over.
      let all = oversized tables.noted (Int id ∷ Text name ∷ []) refl refl (int_is_number id, (zero_is_number, tt)) (zero_is_number, (int_is_number id, tt)) (omega arith, omega arith) (omega arith, omega arith) (omega arith) over in omega (arith, all);
}

module _ {S : Type 0} (g : Ghosts S) where
  pub put_column : (tab at : ℤ) (name : List ℕ) → IsUtf8 name → PutsRow g drop_column_text add_column_text (Int tab ∷ Int at ∷ []) (Int tab ∷ Int at ∷ Text name ∷ []) 3 (λ v. record v { columns = put column_key_cmp (tab, at) name v.columns }) 4 (length name)
  put_column tab at name text = replaces tables.columns add_column_text (Int tab ∷ Int at ∷ Text name ∷ []) (tab, at) name 4 (length name) (column_row tab at name text) g drop_column_text (Int tab ∷ Int at ∷ []) (drop_column g tab at) (λ a b h. h.0)

  pub put_skip : (tab at : ℤ) → PutsRow g drop_skip_text add_skip_text (Int tab ∷ Int at ∷ []) (Int tab ∷ Int at ∷ []) 13 (λ v. record v { skipped = put column_key_cmp (tab, at) tt v.skipped }) 3 0
  put_skip tab at = replaces tables.skipped add_skip_text (Int tab ∷ Int at ∷ []) (tab, at) tt 3 0 (skip_row tab at) g drop_skip_text (Int tab ∷ Int at ∷ []) (drop_skip g tab at) (λ a b h. h.1.1.1.1.1.0)

  pub put_cell : (tab docid at : ℤ) (c : Cell) → cell_in (num_of c) (txt_of c) ≡ c → PutsRow g drop_cell_text add_cell_text (Int tab ∷ Int docid ∷ Int at ∷ []) (Int tab ∷ Int docid ∷ Int at ∷ num_of c ∷ txt_of c ∷ []) 5 (λ v. record v { cells = put cell_key_cmp (tab, docid, at) c v.cells }) 6 (length (bytes (txt_of c)))
  put_cell tab docid at c again = replaces tables.cells add_cell_text (Int tab ∷ Int docid ∷ Int at ∷ num_of c ∷ txt_of c ∷ []) (tab, docid, at) c 6 (length (bytes (txt_of c))) (cell_row tab docid at c again) g drop_cell_text (Int tab ∷ Int docid ∷ Int at ∷ []) (drop_cell g tab docid at) (λ a b h. h.1.0)

  pub put_list : (tab : ℤ) (term : List ℕ) (docid : ℤ) (list : List ℕ) → PutsRow g drop_list_text add_list_text (Int tab ∷ Text term ∷ Int docid ∷ []) (Int tab ∷ Text term ∷ Int docid ∷ Blob list ∷ []) 7 (λ v. record v { lists = put list_key_cmp (tab, term, docid) (unwrap_or (unpacked list) []) v.lists }) 5 (length term + length list)
  put_list tab term docid list = replaces tables.lists add_list_text (Int tab ∷ Text term ∷ Int docid ∷ Blob list ∷ []) (tab, term, docid) (unwrap_or (unpacked list) []) 5 (length term + length list) (list_adds tab term docid list) g drop_list_text (Int tab ∷ Text term ∷ Int docid ∷ []) (drop_list g tab term docid) (λ a b h. h.1.1.0)

  pub put_size : (tab docid at n : ℤ) → PutsRow g drop_size_text add_size_text (Int tab ∷ Int docid ∷ Int at ∷ []) (Int tab ∷ Int docid ∷ Int at ∷ Int n ∷ []) 9 (λ v. record v { sizes = put cell_key_cmp (tab, docid, at) n v.sizes }) 5 0
  put_size tab docid at n = replaces tables.sizes add_size_text (Int tab ∷ Int docid ∷ Int at ∷ Int n ∷ []) (tab, docid, at) n 5 0 (size_row tab docid at n) g drop_size_text (Int tab ∷ Int docid ∷ Int at ∷ []) (drop_size g tab docid at) (λ a b h. h.1.1.1.0)

  pub put_note : (name : List ℕ) → PutsRow g drop_note_text add_note_text (Text name ∷ []) (Text name ∷ []) 11 (λ v. record v { noted = put name_cmp (without_case name) name v.noted }) 2 (length name)
  put_note name = replaces tables.noted add_note_text (Text name ∷ []) (without_case name) name 2 (length name) (note_row name) g drop_note_text (Text name ∷ []) (drop_note g name) (λ a b h. h.1.1.1.1.0)

-- ---- eight lists that are added by one statement

list_passed : (es : List PackedList) (db : Trees) (rows : List Row) → IsPassed (posting_table 7) db (numbered Chosen rows (map list_row es))
list_passed [] db rows = (refl, refl, refl)
list_passed (e ∷ es) db rows = list_passed es db _

list_bare : (es : List PackedList) → AllByRecursion IsUnnumbered (map list_row es)
list_bare [] = tt
list_bare (e ∷ es) = (refl, list_bare es)

list_among : (es : List PackedList) (rows : List Row) (row : Row) → Has (numbered Chosen rows (map list_row es)) row → (rowid : ℤ) × (e : PackedList) × Has es e × (row ≡ Int rowid ∷ entry_values e)
list_among [] rows row h = absurd h
list_among (e ∷ es) rows row (inl same) = (next_rowid rows, e, inl refl, same)
list_among (e ∷ es) rows row (inr later) = let found = list_among es _ row later in (found.0, found.1, inr found.2, found.3)

any_had : {X : Type 0} (P : X → Type 0) (xs : List X) (x : X) → Has xs x → P x → Any P xs
any_had P xs x has p = let at = contains_had xs x has in (at.0, x, at.1, at.2, p)

module _ (a b c d e f g h : PackedList) where
  abbrev eight : List PackedList
  eight = a ∷ b ∷ c ∷ d ∷ e ∷ f ∷ g ∷ h ∷ []

  eight_made : made_rows (posting_table 7) add_lists_terms 5 (flat_map entry_values eight) ≡ map list_row eight
  eight_made = cast_lists eight

  eight_grown : (old new : State) (count : ℕ) → IsStore old.now → Executes add_lists_text (flat_map entry_values eight) old new (Ok count) → AreGrown 8 old.now.trees new.now.trees
  eight_grown old new count kept ran =
      insert_grown (posting_table 7) old new add_lists_text (flat_map entry_values eight) 4 add_lists_terms 5 (map list_row eight) count kept.schema add_lists_means.is add_lists_means.plain refl eight_made (list_bare eight) kept.numbered.1.1.1.1.0 ran

  eight_why : (old new : State) → (IsTrue old.is_open → IsStore old.now) → (why : Error) → why ≢ SqliteFailure code.OutOfMemory → ((rule : Constraint) → why ≢ SqliteFailure (code.ConstraintViolation rule))
      → ExecutesInside 0 add_lists_text (flat_map entry_values eight) old new (Err why) → IsBlamed old new ⊎ (IsFull 8 (old.now.trees 7) ⊎ Any IsBigEntry eight)
  eight_why old new store why other unruled ran =
      elim (insert_blamed (posting_table 7) old new add_lists_text (flat_map entry_values eight) 4 add_lists_terms 5 add_lists_means.is add_lists_means.plain add_lists_means.whole refl (λ db x no. elim no [ inl bad ↦ true≢false bad.1 | inr limit ↦ true≢false (sym limit.1) ]) store why other ran) [
        | inl blamed ↦ inl blamed
        | inr cant ↦ inr (by_cause (store cant.0) (subst (CantAdd why (posting_table 7) old.now.trees) eight_made cant.1))
      ]
    where
      by_cause : IsStore old.now → CantAdd why (posting_table 7) old.now.trees (map list_row eight) → IsFull 8 (old.now.trees 7) ⊎ Any IsBigEntry eight
      by_cause kept (inl refused) =
          let passed = list_passed eight old.now.trees (old.now.trees 7) in
          elim (refused_why (posting_table 7) (inr (inr (inr (inr (inl refl))))) old.now.trees (sound_of old kept) kept.numbered.1.1.1.1.0 (map list_row eight) (list_bare eight)
          passed.0 passed.1 passed.2 refused.0 refused.1) [
            | inl full ↦ inl full
            | inr twice ↦ absurd (unruled Unique (refused.2 ∙ ap edit_error twice.0))
          ]
      by_cause kept (inr (row, listed, big)) =
          let found = list_among eight (old.now.trees 7) row listed in
          let it = found.1 in
          inr (any_had IsBigEntry eight it found.2 (list_big found.0 it.0.0 it.0.1 it.0.2 it.1 (subst (IsOversized store_schema (posting_table 7)) found.3 big)))

pub adds_grown : (old new : State) (es : List PackedList) (values : Row) (added : Bool) → length es ≡ 8 → values ≡ flat_map entry_values es → (IsTrue old.is_open → IsStore old.now)
    → MatchBool added ((count : ℕ) × ExecutesInside 0 add_lists_text values old new (Ok count)) (IsUnchanged old new) → AreGrown (if added then 8 else 0) old.now.trees new.now.trees
adds_grown old new es values false len is kept same = trees_same 0 old.now.trees new.now.trees (ap (λ d. d.trees) same.0.now_is)
adds_grown old new es values true len is kept ran =
    let e = all_eight es len in
    eight_grown e.0 e.1 e.2 e.3 e.4 e.5 e.6 e.7 old new ran.0 (kept ran.1.1.was_open) (subst (λ l. Executes add_lists_text l old new (Ok ran.0)) (is ∙ ap (flat_map entry_values) e.8) ran.1.0)

pub adds_why : (old new : State) (es : List PackedList) (values : Row) → length es ≡ 8 → values ≡ flat_map entry_values es → (IsTrue old.is_open → IsStore old.now)
    → (why : Error) × (why ≢ SqliteFailure code.OutOfMemory) × ((rule : Constraint) → why ≢ SqliteFailure (code.ConstraintViolation rule)) × ExecutesInside 0 add_lists_text values old new (Err why)
    → IsBlamed old new ⊎ (IsFull 8 (old.now.trees 7) ⊎ Any IsBigEntry es)
adds_why old new es values len is kept why =
    let e = all_eight es len in
    subst (λ l. IsBlamed old new ⊎ (IsFull 8 (old.now.trees 7) ⊎ Any IsBigEntry l)) (sym e.8)
    (eight_why e.0 e.1 e.2 e.3 e.4 e.5 e.6 e.7 old new kept why.0 why.1 why.2 (subst (λ l. ExecutesInside 0 add_lists_text l old new (Err why.0)) (is ∙ ap (flat_map entry_values) e.8) why.3))
