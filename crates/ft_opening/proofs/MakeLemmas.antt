-- How all tables are made and marked, and how a store of version 2 becomes one of version 3.
use Rattle.std.proofs.Common.{Option, Some, None, true, map, drop, ◌≡◌, ◌≢◌, inl, inr, ℕ, ◌+◌, ◌<◌, ◌≤◌, pos, List, [], ◌∷◌, Ok, Err, Result, refl, sym, ap, subst, ◌∙◌, arith, IsTrue, true≢false, codes, int_cmp, MutBor, fold, ne_eqb, IsSome, filter, not}
use Rattle.ft_opening.proofs.Common.{AllByRecursion, Table, Insert, created, Does}
use Rattle.ft_opening.proofs.Common.{Error, SqliteFailure, everything, understood}
use Rattle.ft_opening.proofs.Common.{Database, State, Shows, Executes, ExecutesInside, mode_of, HasCleanDisk, IsPlain, Row, column}
use Rattle.ft_opening.proofs.Common.{Null, Int, put_row, Term, lit, Values, cell_key_cmp, list_key_cmp, column_key_cmp, name_cmp, nothing_held}
use Rattle.ft_opening.proofs.Common.{all-append, all_both, Ghosts, Held, state, All-from_recursion, Trees, value_rows, Task, Sourced, stamped, OnRows}
use Rattle.ft_opening.proofs.Common.{due, number, int_is_number, with_tree, IsStorableRow, Datatype, NotNull, Check, PrimaryKey, Unique, ForeignKey}
use Rattle.ft_opening.proofs.Common.{Enforced, Has, Edit, edit_of, edited, IsRefused, IsOversized, Chosen, Refusal, Violates, Mismatch, NoRowid}
use Rattle.ft_opening.proofs.Common.{BadReference, TooDeep, Writes as EditWrites, Turns, unique_kept, IsSound, list_all, holds, Delete, command_of}
use Rattle.sqlite.specs.declared.error.ErrorCode.TheVariants as code
use lib.Ieee
use Rattle.ft_store.specs.Rows.{keyed, table_entry, column_entry, skip_entry, cell_entry, list_entry, size_entry, note_entry, value_of}
use Rattle.ft_store.proofs.{inserts, cast_null, cast_int, deletes, make_skip_text, table_query, shaped_after, same_store, blamed_then, unless_shut}
use Rattle.ft_store.specs.Tables.{store_schema, meta_table, skip_table}
use Rattle.ft_opening.specs.Adopted.{no_schema}
use Rattle.ft_store.specs.Anew.{HasFirst}
use Rattle.ft_store.specs.Made.{first_tables, IsEmptyOf, is_whole, statement_of}
use Rattle.ft_opening.specs.Marking.{IsUnmarked, IsTabled}
use Rattle.ft_store.specs.declared.fault.StoreFault.{StoreFault}
use Rattle.ft_store.specs.Calls.{IsPlainFault, StaysUncommitted, HasOwnRowids, IsStore, HaveOwnRowids}
use Rattle.ft_store.specs.Inside.{MakesInside}
use Rattle.ft_store.specs.Blame.{IsBlamed, BlamesIn}
use Rattle.ft_store.proofs.{stays_then, write_refused_as, apart, refers, delete_blamed_in, never_leads}
use Rattle.std.proofs.lemmas.Nat.Bits.{bit_at-zero}
use Rattle.std.specs.Float.{NotNan}
use Rattle.ft_opening.specs.declared.same.Layout.TheVariants.{Older}
use Rattle.ft_opening.specs.Older.{older_schema, older_value, IsStoreBy}
use Rattle.ft_store.proofs.{allows_skip, create_blamed, creates, makes_skip, own, shows_then}

-- ---- the row that marks the tables

-- the texts that set and drop the mark
abbrev pub mark_text : List ℕ
mark_text = codes "INSERT INTO meta (one, version) VALUES (1, 3)"

abbrev pub unmark_text : List ℕ
unmark_text = codes "DELETE FROM meta"

abbrev pub marked_row : Row
marked_row = Int (pos 1) ∷ Null ∷ Int (pos 3) ∷ []

abbrev pub mark_terms : List Term
mark_terms = lit (Int (pos 1)) ∷ lit Null ∷ lit (Int (pos 3)) ∷ []

pub mark_is : command_of (understood store_schema mark_text) ≡ Insert 0 (Values mark_terms 3)
unfolding understood everything
mark_is = refl

pub mark_plain : IsPlain (understood store_schema mark_text)
unfolding understood everything
mark_plain = (refl, refl)

-- only `meta` differs
pub same_rows : (old new : Trees) → AllByRecursion (λ t. t.tree ≢ 0 → new t.tree ≡ old t.tree) (drop 1 store_schema.tables) → value_of new ≡ value_of old
same_rows old new rest =
    same_store
    (ap (λ r. keyed int_cmp (map table_entry r)) (rest.0 (λ e. omega (arith, e)))) (ap (λ r. keyed column_key_cmp (map column_entry r)) (rest.1.0 (λ e. omega (arith, e)))) (ap (λ r. keyed column_key_cmp (map skip_entry r)) (rest.1.1.1.1.1.1.0 (λ e. omega (arith, e)))) (ap (λ r. keyed cell_key_cmp (map cell_entry r)) (rest.1.1.0 (λ e. omega (arith, e)))) (ap (λ r. keyed list_key_cmp (map list_entry r)) (rest.1.1.1.0 (λ e. omega (arith, e)))) (ap (λ r. keyed cell_key_cmp (map size_entry r)) (rest.1.1.1.1.0 (λ e. omega (arith, e)))) (ap (λ r. keyed name_cmp (map note_entry r)) (rest.1.1.1.1.1.0 (λ e. omega (arith, e))))

-- the tables of a store get their mark
pub marks : (old new : State) (count : ℕ) → IsUnmarked old.now → Executes mark_text [] old new (Ok count) → IsStore new.now × (value_of new.now.trees ≡ value_of old.now.trees)
marks old new count was h =
    let made = inserts old new mark_text [] 0 (meta_table 0) mark_terms 3 marked_row count was.tabled.schema mark_is mark_plain refl (rw (cast_int (pos 1), cast_null, cast_int (pos 3)) refl) h in
    let wrote = made.0 in
    let row : new.now.trees 0 ≡ marked_row ∷ [] = wrote.written ∙ ap (put_row marked_row) was.unmarked in
    let own : HasOwnRowids (new.now.trees 0) = subst HasOwnRowids (sym row) ((tt, tt), (refl, tt)) in (
      record {
        schema = wrote.schema;
        sound = wrote.sound;
        numbered = shaped_after 0 old.now.trees new.now.trees store_schema.tables wrote.others was.tabled.numbered own;
        marked = ap (map (λ (r : Row). column r 2)) row;
      },
      same_rows old.now.trees new.now.trees wrote.others.1,
    )

-- tables without a row are those of a store that holds nothing
pub unmarked_of : (db : Database) → IsEmptyOf store_schema db → IsUnmarked db × (value_of db.trees ≡ nothing_held)
unmarked_of db was =
    let none = was.empty.1 in (
      record {
        tabled = record {
          schema = was.schema;
          sound = was.sound;
          numbered = (own was.empty.0, (own none.0, (own none.1.0, (own none.1.1.0, (own none.1.1.1.0, (own none.1.1.1.1.0, (own none.1.1.1.1.1.0, (own none.1.1.1.1.1.1.0, tt))))))));
        };
        unmarked = was.empty.0;
      },
      λ i. record {
        tables = keyed int_cmp (map table_entry (none.0 i));
        columns = keyed column_key_cmp (map column_entry (none.1.0 i));
        skipped = keyed column_key_cmp (map skip_entry (none.1.1.1.1.1.1.0 i));
        cells = keyed cell_key_cmp (map cell_entry (none.1.1.0 i));
        lists = keyed list_key_cmp (map list_entry (none.1.1.1.0 i));
        sizes = keyed cell_key_cmp (map size_entry (none.1.1.1.1.0 i));
        noted = keyed name_cmp (map note_entry (none.1.1.1.1.1.0 i));
      },
    )

-- ---- tables made one after the other

-- so many tables were made in a transaction that began at `old`
pub record Making {S : Type 0} (g : Ghosts S) (old now : MutBor (Held S)) (made : ℕ) : Type 0 where
  pub within : made ≤ 8
  pub stays : StaysUncommitted {X = Unit {0}} g old now (Ok tt)
  pub inside : HasCleanDisk (state g now.now) → IsTrue (state g old.now).in_transaction → (IsTrue (state g old.now).is_open → IsEmptyOf no_schema (state g old.now).now) → IsTrue (state g now.now).in_transaction
  pub seen : HasCleanDisk (state g now.now) → IsTrue (state g old.now).in_transaction → (IsTrue (state g old.now).is_open → IsEmptyOf no_schema (state g old.now).now)
      → IsTrue (state g now.now).is_open → IsEmptyOf (first_tables made) (state g now.now).now × Shows (state g old.now) (state g now.now) (state g now.now).now (state g old.now).committed true
  pub live : HasCleanDisk (state g now.now) → IsTrue (state g old.now).in_transaction → (IsTrue (state g old.now).is_open → IsEmptyOf no_schema (state g old.now).now)
      → 0 < made → IsTrue (state g now.now).is_open

module _ {S : Type 0} (g : Ghosts S) (a b c : MutBor (Held S)) (n : ℕ) (so : Making g a b n) where
  abbrev MakesOne : Type 0
  MakesOne = MakesInside g b c (Ok tt) (IsEmptyOf (first_tables n)) (λ _ new. IsEmptyOf (first_tables (n + 1)) new)

  then : MakesOne → HasCleanDisk (state g c.now) → IsTrue (state g a.now).in_transaction → (IsTrue (state g a.now).is_open → IsEmptyOf no_schema (state g a.now).now)
      → HasCleanDisk (state g b.now) × IsEmptyOf (first_tables (n + 1)) (state g c.now).now × Shows (state g b.now) (state g c.now) (state g c.now).now (state g b.now).committed true
  then it clean inside was =
      let before : HasCleanDisk (state g b.now) = omega (arith, it.stays.survives.clean, clean) in
      let made = it.steps clean (so.inside before inside was) (λ is_open. (so.seen before inside was is_open).0) in (before, made.0, made.1)

  -- one more
  pub one_made : n < 8 → MakesOne → Making g a c (n + 1)
  one_made below it = record {
    within = omega (arith, below);
    stays = stays_then g IsPlainFault a b c (Ok tt) (Ok tt) so.stays it.stays;
    inside = λ clean inside was. (then it clean inside was).2.mode;
    seen = λ clean inside was is_open. let made = then it clean inside was in (made.1, shows_then _ _ _ (so.seen made.0 inside was made.2.was_open).1 made.2);
    live = λ clean inside was some. (then it clean inside was).2.is_open;
  }

  pub made_blamed : {X : Type 0} (result : Result X StoreFault) → StaysUncommitted g b c result → BlamesIn g b.now c.now result (HasFirst n) → BlamesIn g a.now c.now result (IsEmptyOf no_schema)
  made_blamed result stays blames clean inside was is =
      let before : HasCleanDisk (state g b.now) = omega (arith, stays.survives.clean, clean) in
      blamed_then (state g a.now) (state g b.now) (state g c.now) _ _ before so.stays.survives stays.survives (blames clean (so.inside before inside was) (λ is_open. let it = (so.seen before inside was is_open).0 in record { schema = it.schema; sound = it.sound }) is)

-- all of them
pub all_made : {S : Type 0} (g : Ghosts S) (a b : MutBor (Held S)) (n : ℕ) → 8 ≤ n → Making g a b n → MakesInside g a b (Ok tt) (IsEmptyOf no_schema) (λ _ new. IsUnmarked new × (value_of new.trees ≡ nothing_held))
all_made g a b n all so =
    let is : n ≡ 8 = omega (arith, all, so.within) in
    record {
      steps = λ clean inside was.
          let seen = so.seen clean inside was (so.live clean inside was (omega (arith, is))) in
          (unmarked_of _ (subst (λ n. IsEmptyOf (first_tables n) (state g b.now).now) is seen.0), seen.1);
      stays = so.stays;
    }

-- ---- the mark is refused only by what lies outside the database

-- the row can be stored
storable : IsStorableRow 0 marked_row
unfolding lib.Ieee.is_nan
storable = (
  record {
    typed = λ c is. absurd (omega (arith, is, bit_at-zero c));
    columns = (omega arith, omega arith);
    numbers = All-from_recursion (λ v. NotNan (number v)) marked_row (int_is_number (pos 1), (tt, (int_is_number (pos 3), tt)));
    short = omega arith;
  },
  omega arith,
)

-- the row is put into an empty `meta`
module _ (db : Trees) (sound : IsSound store_schema db) (none : db 0 ≡ []) (rows : List Row) (is : (edit_of db (meta_table 0) [] Chosen 0 rows).news ≡ marked_row ∷ []) where
  abbrev put : Edit
  put = edit_of db (meta_table 0) [] Chosen 0 rows

  small : ¬ IsOversized store_schema (meta_table 0) marked_row
  small (inl big) = big storable
  small (inr (i, listed, of, big)) = elim listed [
    | inl e ↦ omega (arith, of, ap (λ i. i.table) e)
    | inr (inl e) ↦ omega (arith, of, ap (λ i. i.table) e)
    | inr (inr (inl e)) ↦ omega (arith, of, ap (λ i. i.table) e)
    | inr (inr (inr (inl e))) ↦ omega (arith, of, ap (λ i. i.table) e)
    | inr (inr (inr (inr (inl e)))) ↦ omega (arith, of, ap (λ i. i.table) e)
    | inr (inr (inr (inr (inr (inl e))))) ↦ omega (arith, of, ap (λ i. i.table) e)
    | inr (inr (inr (inr (inr (inr (inl e)))))) ↦ omega (arith, of, ap (λ i. i.table) e)
    | inr (inr (inr (inr (inr (inr (inr none_other)))))) ↦ none_other
  ]

  after : with_tree db 0 (edited db put) 0 ≡ marked_row ∷ []
  after = ap (fold (λ all r. put_row r all) (db 0)) is ∙ ap (put_row marked_row) none

  turned : Turns store_schema db (with_tree db 0 (edited db put)) (meta_table 0) [] [] (marked_row ∷ [])
  turned = record {
    apart = apart;
    listed = inl refl;
    others = λ t known other. rw (ne_eqb t.tree 0 other) refl;
    from = λ r h. inl (subst (λ l. Has l r) after h);
    stays = λ r h. absurd h;
    added = λ r h. subst (λ l. Has l r) (sym after) h;
    was = λ r h. absurd h;
    split = λ r h. absurd (subst (λ l. Has l r) none h);
  }

  mark_not_refused : (why : Refusal) → ¬ IsRefused store_schema Enforced db put why
  mark_not_refused (Violates Datatype) h = true≢false (rw is at h)
  mark_not_refused (Violates NotNull) h = true≢false (rw is at h)
  mark_not_refused (Violates Check) h = true≢false (rw is at h)
  mark_not_refused (Violates PrimaryKey) h = true≢false (rw (is, none) at h)
  mark_not_refused (Violates Unique) h = h (unique_kept store_schema db (with_tree db 0 (edited db put)) (meta_table 0) _ _ (marked_row ∷ []) turned refl (sound.obeys.rules Unique))
  mark_not_refused (Violates ForeignKey) h = h
  mark_not_refused Mismatch h = true≢false (rw is at h)
  mark_not_refused NoRowid h = true≢false (rw is at h)
  mark_not_refused BadReference h = true≢false (rw is at h)
  mark_not_refused TooDeep h = h

  never_fails : (why : Option Refusal) → ¬ EditWrites store_schema Enforced db put (Err why)
  never_fails why (inl refused) = mark_not_refused refused.0 refused.1
  never_fails why (inr (inl (row, new, big, same))) = elim (subst (λ l. Has l row) is new) [ inl e ↦ small (subst (IsOversized store_schema (meta_table 0)) e big) | inr none_other ↦ none_other ]
  never_fails why (inr (inr went)) = never_leads went.2.0 went.0 why went.2.1

mark_whole : is_whole mark_text 0 (understood store_schema mark_text) ≡ true
unfolding understood everything
mark_whole = refl

cast_news : (db : Trees) (rows : List Row) → rows ≡ value_rows (stamped (meta_table 0) []) 3 1 mark_terms → (edit_of db (meta_table 0) [] Chosen 0 rows).news ≡ marked_row ∷ []
cast_news db rows given = rw (given, cast_int (pos 1), cast_null, cast_int (pos 3)) refl

sourced : (limit : Option ℕ) (db : Database) (stop : Option Error) → Sourced limit db (stamped (meta_table 0) []) (Values mark_terms 3) (Err stop) → IsSome limit
sourced limit db None h = absurd h
sourced limit db (Some e) (inl typed) = absurd (true≢false typed.1)
sourced limit db (Some e) (inr limited) = limited.1

mark_limited : (old : State) (stop : Option Error) (text : List ℕ) → IsUnmarked old.now → Does old.step_limit (mode_of old) [] old.now text None (Insert 0 (Values mark_terms 3)) (Err stop) → IsSome old.step_limit
mark_limited old stop text was does =
    let db = old.now.trees in
    let command = Insert 0 (Values mark_terms 3) in
    let sound : IsSound store_schema db = subst (λ c. IsSound c db) was.tabled.schema was.tabled.sound in
    let task : Task = record { limit = old.step_limit; keys = (mode_of old).keys; schema = store_schema; table = meta_table 0; params = [] } in
    let begun = subst (λ c. Does old.step_limit (mode_of old) [] (record old.now { schema = c }) text None command (Err stop)) was.tabled.schema does in
    let on : OnRows task (mode_of old) None command db (Err stop) = begun in
    elim on [
      | inl writes ↦ elim writes.1 [
        | inl asked ↦ sourced old.step_limit (record { schema = store_schema; trees = db }) asked.0 asked.1
        | inr asked ↦ absurd (let news = cast_news db asked.0 asked.1.1 in elim asked.2 [
          | inl counted ↦ (let e = counted.1 in cc)
          | inr counted ↦ elim counted.2 [
            | inl wrote ↦ never_fails db sound was.unmarked asked.0 news wrote.1.0 wrote.1.1
            | inr wrote ↦ elim wrote.2 [
              | inl topped ↦ (let e = topped.1 in cc)
              | inr topped ↦ (let e = topped.2 in cc)
            ]
          ]
        ])
      ]
      | inr wrote ↦ absurd (elim wrote.2 [
        | inl tested ↦ tested.1.0 (refers (due (mode_of old)) wrote.0.trees)
        | inr tested ↦ elim tested.2 [
          | inl shown ↦ (let e = shown.1 in cc)
          | inr shown ↦ (let e = shown.2 in cc)
        ]
      ])
    ]

-- the row that marks the tables is refused only by what lies outside the database
pub mark_blamed : (old new : State) → (IsTrue old.is_open → IsUnmarked old.now) → (e : Error) → e ≢ SqliteFailure code.OutOfMemory → ExecutesInside 0 mark_text [] old new (Err e) → IsBlamed old new
mark_blamed old new kept e other ran = unless_shut old new (λ blamed. blamed) (λ is.
    elim (write_refused_as old new mark_text [] (kept is).tabled.schema (Insert 0 (Values mark_terms 3)) mark_is mark_plain mark_whole tt refl e other ran) [
      | inl blamed ↦ blamed
      | inr cant ↦ inr (inr (mark_limited old cant.0 (statement_of mark_text (understood store_schema mark_text)) (kept is) cant.2))
    ])

-- ---- the table that is added

with_skip : created older_schema (skip_table 0) ≡ store_schema
unfolding Rattle.std.specs.Fmt.digits
with_skip = refl

pub add_blamed : (old new : State) → (IsTrue old.is_open → IsStoreBy Older old.now) → (e : Error) → e ≢ SqliteFailure code.OutOfMemory → ExecutesInside 0 make_skip_text [] old new (Err e) → IsBlamed old new
add_blamed old new was = create_blamed old new older_schema make_skip_text (skip_table 0) makes_skip allows_skip (λ is_open. (was is_open).schema)

pub adds : (old new : State) (count : ℕ) → IsStoreBy Older old.now → Executes make_skip_text [] old new (Ok count) → IsTabled new.now × (value_of new.now.trees ≡ older_value old.now.trees)
adds old new count was h =
    let it = creates old new make_skip_text older_schema (skip_table 0) count makes_skip was.schema h in
    let rows = it.others in
    let kept : HaveOwnRowids older_schema.tables new.now.trees =
    all_both (λ t. new.now.trees t.tree ≡ old.now.trees t.tree) (λ t. HasOwnRowids (old.now.trees t.tree)) (λ (t : Table). HasOwnRowids (new.now.trees t.tree)) (λ t e own. subst HasOwnRowids (sym e) own) older_schema.tables rows was.numbered in (
      record {
        schema = it.schema ∙ with_skip;
        sound = it.sound;
        numbered = all-append (λ (t : Table). HasOwnRowids (new.now.trees t.tree)) older_schema.tables (skip_table 13 ∷ []) kept (subst HasOwnRowids (sym it.empty) (tt, tt), tt);
      },
      same_store
          (ap (λ r. keyed int_cmp (map table_entry r)) rows.1.0) (ap (λ r. keyed column_key_cmp (map column_entry r)) rows.1.1.0) (ap (λ r. keyed column_key_cmp (map skip_entry r)) it.empty)
          (ap (λ r. keyed cell_key_cmp (map cell_entry r)) rows.1.1.1.0) (ap (λ r. keyed list_key_cmp (map list_entry r)) rows.1.1.1.1.0) (ap (λ r. keyed cell_key_cmp (map size_entry r)) rows.1.1.1.1.1.0)
          (ap (λ r. keyed name_cmp (map note_entry r)) rows.1.1.1.1.1.1.0),
    )

-- ---- the version that is taken out

unmark_is : command_of (understood store_schema unmark_text) ≡ Delete 0 (record { lets = []; body = table_query 0 [] (0 ∷ []) [] })
unfolding understood everything
unmark_is = refl

unmark_plain : IsPlain (understood store_schema unmark_text)
unfolding understood everything
unmark_plain = (refl, refl)

unmark_whole : is_whole unmark_text 0 (understood store_schema unmark_text) ≡ true
unfolding understood everything
unmark_whole = refl

pub unmark_blamed : (old new : State) → (IsTrue old.is_open → IsTabled old.now) → (e : Error) → e ≢ SqliteFailure code.OutOfMemory → ExecutesInside 0 unmark_text [] old new (Err e) → IsBlamed old new
unmark_blamed old new was =
    delete_blamed_in old new unmark_text [] 0 (meta_table 0) [] unmark_is unmark_plain unmark_whole refl (inl refl) (λ db. refl) (λ db has no. true≢false (rw has at no)) (λ is_open. let kept = was is_open in (kept.schema, kept.sound))

none_of : (rows : List Row) → filter (λ r. not (list_all (holds ([] ∷ r ∷ [])) [])) rows ≡ []
none_of [] = refl
none_of (r ∷ rows) = none_of rows

pub unmarks : (old new : State) (count : ℕ) → IsTabled old.now → Executes unmark_text [] old new (Ok count) → IsUnmarked new.now × (value_of new.now.trees ≡ value_of old.now.trees)
unmarks old new count was h =
    let wrote = deletes old new unmark_text [] 0 (meta_table 0) [] count was.schema unmark_is unmark_plain refl refl was.numbered.0 h in
    let empty = wrote.written ∙ none_of (old.now.trees 0) in (
      record {
        tabled = record {
          schema = wrote.schema;
          sound = wrote.sound;
          numbered = shaped_after 0 old.now.trees new.now.trees store_schema.tables wrote.others was.numbered (subst HasOwnRowids (sym empty) (tt, tt));
        };
        unmarked = empty;
      },
      same_rows old.now.trees new.now.trees wrote.others.1,
    )
