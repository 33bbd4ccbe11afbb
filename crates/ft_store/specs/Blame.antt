-- Meaning. Why the database refuses a call of a store.
use Rattle.std.specs.Prelude.{◌≡◌, ◌≢◌, ◌⊎◌, ◌++◌, ◌∷◌, ◌<◌, ℕ, Bool, true, false, List, [], length, Result, Err, IsSome, IsTrue, IsUtf8}
use Rattle.std.specs.List.{AllByRecursion}
use Rattle.sqlite_disk.specs.Disk.{MoreFaults}
use Rattle.sqlite.specs.Order.{Row, column}
use Rattle.sqlite.specs.Values.{IsInt}
use Rattle.sqlite.specs.declared.types.Value.TheVariants as value
use Rattle.sqlite.specs.Clock.{timed}
use Rattle.sqlite.specs.Effect.{Database, RefusesToRead}
use Rattle.sqlite.specs.Listing.{reads_listing, IsSourceOf}
use Rattle.sqlite.specs.State.{State, HasCleanDisk, IsStatement, IsNoStatement, Begins, ExecutesInside}
use Rattle.sqlite.specs.Store.{Ghosts}
use Rattle.sqlite.specs.Held.{Held, state}
use Rattle.sqlite.specs.declared.error.Error.{Error}
use Rattle.sqlite.specs.declared.error.Error.TheVariants.{SqliteFailure}
use Rattle.sqlite.specs.declared.error.ErrorCode.TheVariants as code
use Rattle.sqlite_resolve.specs.declared.compiled.Compiled.{Compiled}
use Rattle.ft_values.specs.declared.rows.RowChange.{RowChange}
use Rattle.ft_values.specs.declared.rows.RowChange.TheVariants.{DropTable, DropCells, DropEntries, DropSize, ClearIndex}
use Rattle.ft_rows.specs.Store.{StoreValue}
use Rattle.ft_store.specs.Calls.{IsStore}
use Rattle.ft_store.specs.declared.fault.StoreFault.{StoreFault}
use Rattle.ft_store.specs.declared.fault.StoreFault.TheVariants as fault

-- the disk gave more faults in this call, the database was not open, or it has a limit on steps
abbrev pub IsBlamed : State → State → Type 0
IsBlamed old new = MoreFaults old.faults new.faults ⊎ ((old.is_open ≡ false) ⊎ IsSome old.step_limit)

-- the text is no statement under the tables, or the rows or the parameters are none that it can read
abbrev pub IsUnasked : State → List ℕ → Row → Type 0
IsUnasked s sql params =
    (e : Error) × (IsNoStatement s sql params e
    ⊎ ((c : Compiled) × (it : IsStatement s sql params c) × (db : Database) × IsSourceOf (reads_listing s.now.schema sql) s.now db
    × RefusesToRead s.step_limit c.command db (timed params c.formats it.now) e))

-- the query begins with rows of which the last can't be taken
abbrev pub GivesUntaken : State → List ℕ → Row → (Row → Type 0) → Type 0
GivesUntaken s sql params Takes = (rows : List Row) × (row : Row) × Begins sql params s (rows ++ row ∷ []) × (Takes row → ⊥)

-- why a read is refused by the database, whose rows are taken so
abbrev pub RefusesRead : {S X : Type 0} → Ghosts S → Held S → Held S → Result X StoreFault → List ℕ → Row → (Row → Type 0) → Type 0
RefusesRead g old new result sql params Takes =
    HasCleanDisk (state g new) → result ≡ Err fault.Refused
    → IsBlamed (state g old) (state g new) ⊎ (IsUnasked (state g old) sql params ⊎ GivesUntaken (state g old) sql params Takes)

-- a call outside a transaction is refused by the database only for what lies outside the store
abbrev pub Blames : {X : Type 0} → State → State → Result X StoreFault → Type 0
Blames old new result = HasCleanDisk new → result ≡ Err fault.Refused → IsBlamed old new

-- a row that begins with a docid and a packed list
abbrev pub IsListRow : Row → Type 0
IsListRow row = (1 < length row) × IsInt (column row 0) × ((b : List ℕ) × (column row 1 ≡ value.Blob b))

-- the same, with the term after them
abbrev pub IsTermRow : Row → Type 0
IsTermRow row = IsListRow row × (2 < length row) × ((t : List ℕ) × (column row 2 ≡ value.Text t))

-- each table's name is a text
abbrev pub AreTableTexts : StoreValue → Type 0
AreTableTexts v = AllByRecursion (λ t. IsUtf8 t.1) v.tables

-- each noted name is a text
abbrev pub AreNotedTexts : StoreValue → Type 0
AreNotedTexts v = AllByRecursion (λ n. IsUtf8 n.1) v.noted

-- why a statement of a transaction is refused: as the database says
abbrev pub RefusesRun : {S X : Type 0} → Ghosts S → Held S → Held S → Result X StoreFault → List ℕ → Row → Type 0
RefusesRun g old new result sql params =
    HasCleanDisk (state g new) → IsTrue (state g old).in_transaction → result ≡ Err fault.Refused
    → (e : Error) × (e ≢ SqliteFailure code.OutOfMemory) × ExecutesInside 0 sql params (state g old) (state g new) (Err e)

-- in a transaction of a store a call is refused only by what lies outside the store
abbrev pub BlamesOutside : {S X : Type 0} → Ghosts S → Held S → Held S → Result X StoreFault → Type 0
BlamesOutside g old new result =
    HasCleanDisk (state g new) → IsTrue (state g old).in_transaction → (IsTrue (state g old).is_open → IsStore (state g old).now) → result ≡ Err fault.Refused
    → IsBlamed (state g old) (state g new)

-- a change that only takes rows out
abbrev pub takes_out : RowChange → Bool
takes_out (DropTable tab) = true
takes_out (DropCells tab docid) = true
takes_out (DropEntries tab term docid) = true
takes_out (DropSize tab docid column) = true
takes_out (ClearIndex tab) = true
takes_out _ = false

abbrev pub TakesOut : RowChange → Type 0
TakesOut change = IsTrue (takes_out change)

-- in a transaction of a database with this property a call is refused only by what lies outside it
abbrev pub BlamesIn : {S X : Type 0} → Ghosts S → Held S → Held S → Result X StoreFault → (Database → Type 0) → Type 0
BlamesIn g old new result Has =
    HasCleanDisk (state g new) → IsTrue (state g old).in_transaction → (IsTrue (state g old).is_open → Has (state g old).now) → result ≡ Err fault.Refused
    → IsBlamed (state g old) (state g new)
