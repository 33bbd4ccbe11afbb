-- Steps. How tables of a store are made anew, where no row of another table stands in the way (own choice): the last ones are dropped and
-- made again, and what they held beside is put again.
use Rattle.std.specs.Prelude.{◌≡◌, ◌<◌, ◌≤◌, ◌+◌, ◌%◌, ◌==◌, ◌+ℤ◌, ◌≤ℤ◌, ℕ, ℤ, pos, true, false, MatchBool, nat_lt, List}
use Rattle.std.specs.Prelude.{[], ◌∷◌, length, map, drop, slice_get, slice_index_or, filter, Some, None, IsUtf8, IsTrue, Result, IfOk, OnOk}
use Rattle.std.specs.List.{AllByRecursion, list_all}
use Rattle.sqlite.specs.declared.types.Value.TheVariants.{Int, Text}
use Rattle.sqlite.specs.Order.{Row, column}
use Rattle.sqlite_value.specs.declared.keys.Key.{Key}
use Rattle.sqlite.specs.Tree.{Trees}
use Rattle.sqlite.specs.Table.{Table}
use Rattle.sqlite.specs.Term.{Term, lit, col, op2, holds}
use Rattle.sqlite.specs.Query.{Query, inner, end}
use Rattle.sqlite_sql.specs.declared.ops.BinaryOp.TheVariants.{Compare}
use Rattle.sqlite_sql.specs.declared.ops.CompareOp.{CompareOp}
use Rattle.sqlite_sql.specs.declared.ops.CompareOp.TheVariants.{Eq, Lt, Le, Ge}
use Rattle.sqlite.specs.Collation.TheVariants.{Binary}
use Rattle.sqlite_schema.specs.declared.schema.Keys.{Keys}
use Rattle.sqlite.specs.Command.TheVariants.{DropTable, Select}
use Rattle.sqlite.specs.Listing.{understood, reads_listing}
use Rattle.sqlite.specs.Given.{IsPlain}
use Rattle.sqlite.specs.Effect.{Database, IsDatabase}
use Rattle.sqlite.specs.Change.{next_tree, without_table}
use Rattle.sqlite.specs.Does.{is_acted_on}
use Rattle.sqlite.specs.State.{State, HasCleanDisk, IsUnchanged}
use Rattle.sqlite.specs.Store.{Ghosts}
use Rattle.sqlite.specs.Held.{Held, state}
use Rattle.ft_store.specs.declared.fault.StoreFault.{StoreFault}
use Rattle.ft_rows.specs.Store.{name_cmp}
use Rattle.ft_store.specs.Tables.{store_schema}
use Rattle.ft_store.specs.Rows.{keyed, note_entry, value_of}
use Rattle.ft_store.specs.Found.{found_note}
use Rattle.ft_store.specs.Made.{first_tables, compiled_command, is_whole, IsTypedIn}
use Rattle.ft_store.specs.Calls.{IsStore}
use Rattle.ft_store.specs.Inside.{without_lists}
use Rattle.ft_store.specs.Puts.{AreGrown}

-- ---- tables that are made anew

-- a database with so many of a store's tables, from the first on
pub record HasFirst (n : ℕ) (db : Database) : Type 0 where
  pub schema : db.schema ≡ first_tables n
  pub sound : IsDatabase db

-- so many tables keep their rows
abbrev pub KeepsFirst : ℕ → Database → Database → Type 0
KeepsFirst n old new = AllByRecursion (λ t. new.trees t.tree ≡ old.trees t.tree) (first_tables n).tables

-- the last table, at this place, is gone
abbrev pub DropsLast : ℕ → Database → Database → Type 0
DropsLast n old new = HasFirst n new × KeepsFirst n old new

-- the next table, at this place, is there without a row
abbrev pub AddsNext : ℕ → Database → Database → Type 0
AddsNext n old new = HasFirst (n + 1) new × KeepsFirst n old new × (new.trees (next_tree (first_tables n)) ≡ [])

-- so many tables are there, from one place on without a row
abbrev pub Fills : ℕ → ℕ → Database → Database → Type 0
Fills from n old new = HasFirst n new × KeepsFirst from old new × AllByRecursion (λ t. new.trees t.tree ≡ []) (drop from (first_tables n).tables)

-- in a database with one table more the text drops the one at this place
pub record DropsNext (at : ℕ) (text : List ℕ) : Type 0 where
  pub table : Table
  pub command : compiled_command (understood (first_tables (at + 1)) text) ≡ DropTable at
  pub plain : IsPlain (understood (first_tables (at + 1)) text)
  pub whole : is_whole text 0 (understood (first_tables (at + 1)) text) ≡ true
  pub found : slice_get (first_tables (at + 1)).tables at ≡ Some table
  pub uncounted : table.is_counted ≡ false
  pub alone : (keys : Keys) → is_acted_on (first_tables (at + 1)) keys table ≡ false
  pub bare : AllByRecursion (λ t. t.references ≡ []) (first_tables (at + 1)).tables
  pub left_bare : AllByRecursion (λ t. t.references ≡ []) (first_tables at).tables
  pub next : without_table (first_tables (at + 1)) table.tree ≡ first_tables at

-- ---- rows that stand in the way

abbrev pub looks_for : ℕ → List Term → List ℕ → List (Term × Key) → Term → Term → Query
looks_for tree filter show order limit offset = record {
  from = inner tree end;
  filter = filter;
  group = None;
  project = map (col 1) show;
  distinct = false;
  collations = [];
  order = order;
  limit = limit;
  offset = offset;
}

-- a value beside the parameter
abbrev pub compared : CompareOp → Term → Term
compared op value = op2 (Compare op Binary) value (col 0 0)

-- over the tables of a store the text asks for rows of one tree that pass these tests
pub record LooksAt (text : List ℕ) (params : Row) (tree : ℕ) (terms : List Term) (limit offset : Term) : Type 0 where
  pub show : List ℕ
  pub order : List (Term × Key)
  pub names : List (List ℕ)
  pub is : compiled_command (understood store_schema text) ≡ Select (record { lets = []; body = looks_for tree terms show order limit offset }) names
  pub plain : IsPlain (understood store_schema text)
  pub unlisted : reads_listing store_schema text ≡ false
  pub whole : is_whole text (length params) (understood store_schema text) ≡ true
  pub typed : IsTypedIn store_schema (looks_for tree terms show order limit offset) params

-- What is looked for at most once: rows of `cell`, `posting` and `sizes` whose table is up to the number that is bound, or from it on, any
-- row of `skip`, and a noted name whose rowid is below it.
abbrev pub probe_tree : ℕ → ℕ
probe_tree at = slice_index_or (5 ∷ 5 ∷ 7 ∷ 7 ∷ 9 ∷ 9 ∷ 13 ∷ []) at 11

abbrev pub probe_term : ℕ → Term
probe_term at =
    let below = compared Le (col 1 1) in
    let above = compared Ge (col 1 1) in
    let any = op2 (Compare Eq Binary) (col 0 0) (lit (Int (pos 1))) in
    slice_index_or (below ∷ above ∷ below ∷ above ∷ below ∷ above ∷ any ∷ []) at (compared Lt (col 1 0))

-- The number that is bound in a probe: no number between it and this table's is left out, and in the last two it is 1.
abbrev pub IsNear : ℕ → ℤ → ℤ → Type 0
IsNear at tab n = MatchBool (nat_lt at 6) (MatchBool (at % 2 == 0) (tab ≤ℤ (n +ℤ pos 1)) (n ≤ℤ (tab +ℤ pos 1))) (n ≡ pos 1)

-- the text looks for the first such row
abbrev pub IsProbe : ℕ → List ℕ → Type 0
IsProbe at text = (n : ℤ) → LooksAt text (Int n ∷ []) (probe_tree at) (probe_term at ∷ []) (lit (Int (pos 1))) (lit (Int (pos 0)))

-- there is no such row
abbrev pub IsFree : ℕ → ℤ → Trees → Type 0
IsFree at tab db = (n : ℤ) × IsNear at tab n × AllByRecursion (λ r. list_all (holds ((Int n ∷ []) ∷ r ∷ [])) (probe_term at ∷ []) ≡ false) (db (probe_tree at))

-- nothing stands in the way, by the probes from one on
abbrev pub AreFree : ℕ → ℤ → Trees → Type 0
AreFree from tab db = (at : ℕ) → from ≤ at → at < 8 → IsFree at tab db

-- a row with a noted name that is no longer than is put again
pub record IsShortNote (row : Row) : Type 0 where
  pub text : List ℕ
  pub is : column row 0 ≡ Text text
  pub utf8 : IsUtf8 text
  pub short : length text < 1000000

-- the noted names, which are few
pub record AreNotes (db : Trees) (rows : List Row) : Type 0 where
  pub all : map found_note rows ≡ keyed name_cmp (map note_entry (db 11))
  pub few : length rows < 1000

-- ---- what is read in a transaction

-- Nothing was changed so far in a transaction that began at `old`, perhaps after no step.
pub record IsUntouched (old new : State) : Type 0 where
  pub now : new.now ≡ old.now
  pub committed : new.committed ≡ old.committed
  pub inside : IsTrue new.in_transaction
  pub opened : IsTrue new.is_open → IsTrue old.is_open

-- the same, with an answer of this kind
abbrev pub FindsInside : {S X : Type 0} → Ghosts S → Held S → Held S → Result X StoreFault → (X → Type 0) → Type 0
FindsInside g old new result Is =
    HasCleanDisk (state g new) → IsTrue (state g old).in_transaction → (IsTrue (state g old).is_open → IsStore (state g old).now)
    → IfOk result (λ x. IsUntouched (state g old) (state g new) × IsTrue (state g old).is_open × Is x)

-- nothing is changed, where the disk returned what was written
abbrev pub RestsOnOk : {S X : Type 0} → Ghosts S → Held S → Held S → Result X StoreFault → Type 0
RestsOnOk g old new result =
    HasCleanDisk (state g new) → IsTrue (state g old).in_transaction → (IsTrue (state g old).is_open → IsStore (state g old).now)
    → OnOk result (IsUnchanged (state g old) (state g new))

-- ---- lists that are taken out in parts

-- Only lists of the table were taken out so far in a transaction that began at `old`, perhaps none.
pub record Thins (tab : ℤ) (old new : State) : Type 0 where
  pub committed : new.committed ≡ old.committed
  pub inside : IsTrue new.in_transaction
  pub opened : IsTrue new.is_open → IsTrue old.is_open
  pub store : IsTrue new.is_open → IsStore new.now
  pub same : IsTrue new.is_open → without_lists tab (value_of new.now.trees) ≡ without_lists tab (value_of old.now.trees)
  pub grown : IsTrue new.is_open → AreGrown 0 old.now.trees new.now.trees

abbrev pub ThinsOnOk : {S X : Type 0} → Ghosts S → Held S → Held S → Result X StoreFault → ℤ → Type 0
ThinsOnOk g old new result tab =
    HasCleanDisk (state g new) → IsTrue (state g old).in_transaction → (IsTrue (state g old).is_open → IsStore (state g old).now)
    → OnOk result (Thins tab (state g old) (state g new))
