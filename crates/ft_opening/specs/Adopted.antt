-- Meaning. Which databases are taken as stores, and why others are not (own choice).
use Rattle.std.specs.Prelude.{◌≡◌, ◌≢◌, ◌⊎◌, ◌||◌, ℤ, pos, false, length, map, IsTrue, Bool, if◌then◌else◌, List, [], ◌∷◌, true, Result, Ok, Err, Vec}
use Rattle.std.specs.List.{list_any}
use Rattle.std.specs.Ordering.{int_eq}
use Rattle.std.specs.declared.alloc.Global.{Global}
use Rattle.sqlite.specs.declared.error.Error.{Error}
use Rattle.sqlite.specs.declared.error.Error.TheVariants.{SqliteFailure}
use Rattle.sqlite.specs.declared.error.ErrorCode.TheVariants as code
use Rattle.sqlite.specs.declared.types.Value.{Value}
use Rattle.sqlite.specs.declared.types.Value.TheVariants.{Int}
use Rattle.sqlite.specs.Schema.{Schema}
use Rattle.sqlite_schema.specs.Names.{same_name}
use Rattle.ft_store.specs.declared.fault.StoreFault.{StoreFault}
use Rattle.ft_store.specs.declared.fault.StoreFault.TheVariants as fault
use Rattle.sqlite.specs.Order.{Row, column}
use Rattle.sqlite.specs.State.{State, HasCleanDisk, Survives, Shown, FailsToQuery, IsTooLate}
use Rattle.sqlite.specs.Store.{Ghosts}
use Rattle.sqlite.specs.Held.{Held, state}
use Rattle.std.specs.Prelude.{codes, ℕ}
use Rattle.ft_store.specs.Tables.{store_schema}
use Rattle.ft_rows.specs.Store.{nothing_held}
use Rattle.ft_store.specs.Calls.{HaveOwnRowids, IsPlainFault, IsStored, Keeps}
use Rattle.ft_store.specs.Blame.{IsBlamed}
use Rattle.ft_opening.specs.declared.same.Layout.{Layout}
use Rattle.ft_opening.specs.declared.same.Layout.TheVariants.{Older, Present}
use Rattle.ft_opening.specs.Older.{older_schema, schema_of, version_of, HasStoreTables, IsOlder, older_value}
use Rattle.sqlite.specs.Tree.{Trees}
use Rattle.sqlite.specs.Effect.{Database}

-- a database without objects
abbrev pub no_schema : Schema
no_schema = record { tables = []; indexes = []; views = [] }

abbrev pub version_query : List ℕ
version_query = codes "SELECT version FROM meta"

-- what a query gives, or why it is refused
abbrev pub GivesVersion : State → State → Result (Vec Row Global) Error → Type 0
GivesVersion old new (Ok rows) = Shown version_query [] old new rows.items
GivesVersion old new (Err e) = FailsToQuery version_query [] old new e ⊎ IsTooLate version_query [] old new e

-- the database answers so when it is asked for its version, in a transaction
abbrev pub TellsAs : {S : Type 0} → Ghosts S → Held S → Result (Vec Row Global) Error → Type 0
TellsAs {S} g old result = (after : Held S) × GivesVersion (state g (record old { in_transaction = true })) (state g after) result

-- the version is one of those that stores have, or another
abbrev pub version_cause : Value → StoreFault
version_cause (Int n) = if int_eq n (pos 2) || int_eq n (pos 3) then fault.Refused else fault.Version n
version_cause _ = fault.NotAStore

-- `meta` has one row, with a number
abbrev pub rows_cause : List Row → StoreFault
rows_cause [] = fault.NotAStore
rows_cause (row ∷ []) = version_cause (column row 0)
rows_cause (row ∷ second ∷ more) = fault.NotAStore

-- what comes of memory and disk says nothing of the database
abbrev pub error_cause : Error → StoreFault
error_cause (SqliteFailure code.OutOfMemory) = fault.Memory
error_cause (SqliteFailure code.SystemIoFailure) = fault.Refused
error_cause (SqliteFailure code.DatabaseCorrupt) = fault.Refused
error_cause (SqliteFailure code.DiskFull) = fault.Refused
error_cause (SqliteFailure code.Closed) = fault.Refused
error_cause _ = fault.NotAStore

-- why a database that answers this for its version is not taken
abbrev pub told_cause : Result (Vec Row Global) Error → StoreFault
told_cause (Ok rows) = rows_cause rows.items
told_cause (Err e) = error_cause e

-- the tables of a store
abbrev pub our_names : List (List ℕ)
our_names = codes "meta" ∷ codes "tab" ∷ codes "col" ∷ codes "cell" ∷ codes "posting" ∷ codes "sizes" ∷ codes "noted" ∷ codes "skip" ∷ []

-- one of them is a table here
abbrev pub has_our_name : Schema → Bool
has_our_name schema = list_any (λ t. list_any (same_name t.name) our_names) schema.tables

-- why a database may not be taken: a plain fault, or what `meta` says
abbrev pub IsAdoptFault : StoreFault → Type 0
IsAdoptFault e = IsPlainFault e ⊎ ((e ≡ fault.NotAStore) ⊎ ((n : ℤ) × (e ≡ fault.Version n)))

-- a version that no store has that is taken
abbrev pub IsOtherVersion : ℤ → Type 0
IsOtherVersion n = (n ≢ pos 2) × (n ≢ pos 3)

-- `meta` has one row, with such a version
abbrev pub IsOfVersion : ℤ → Trees → Type 0
IsOfVersion n db = (map (λ (r : Row). column r 2) (db 0) ≡ Int n ∷ []) × IsOtherVersion n

-- What is made of a database: of one without objects the empty store, and of a store of version 2 a store that holds the same.
abbrev pub IsMadeOf : Database → Trees → Type 0
IsMadeOf old db =
    ((old.schema ≡ no_schema) × IsStored db nothing_held) ⊎ ((old.schema ≡ older_schema) × IsOlder old.trees × IsStored db (older_value old.trees))

-- `meta` has one row, with this version
abbrev pub HasVersion : ℤ → Trees → Type 0
HasVersion n db = map (λ (r : Row). column r 2) (db 0) ≡ Int n ∷ []

-- the version that goes with the tables of the other version
abbrev pub other_version : Layout → ℤ
other_version Older = version_of Present
other_version Present = version_of Older

-- a database with the tables of a store is refused: for its version, or since two rows of a table have one rowid
abbrev pub IsOddStore : Layout → Trees → Type 0
IsOddStore layout db = HasVersion (other_version layout) db ⊎ ¬ HaveOwnRowids (schema_of layout).tables db

-- one with other tables: none of them has a name of ours, or `meta` has a version that stores have
abbrev pub IsForeign : {S : Type 0} → Ghosts S → Held S → Type 0
IsForeign g old = (has_our_name old.schema ≡ false) ⊎ ((found : Vec Row Global) × TellsAs g old (Ok found) × (rows_cause found.items ≡ fault.Refused))

-- Why a database is refused for what it is, before the call: it has other tables than a store, or those of a store, but no store's version
-- or rowids.
abbrev pub IsRefusable : {S : Type 0} → Ghosts S → Held S → Type 0
IsRefusable g old =
    ((old.schema ≢ no_schema) × (HasStoreTables old.schema → ⊥) × IsForeign g old)
    ⊎ ((layout : Layout) × (old.schema ≡ schema_of layout) × IsOddStore layout (state g old).now.trees)

-- A database is taken as a store, and is open: one that has the tables of a store stays as it is, and of any other a store is made.
pub record IsTakenAsStore {S : Type 0} (g : Ghosts S) (old new : Held S) : Type 0 where
  pub live : HasCleanDisk (state g new) → IsTrue (state g new).is_open
  pub held : HasCleanDisk (state g new) → IsTrue (state g new).is_open → old.schema ≡ store_schema → (state g new).now ≡ (state g old).now
  pub made : HasCleanDisk (state g new) → IsTrue (state g new).is_open → old.schema ≢ store_schema → IsMadeOf (state g old).now (state g new).now.trees

-- A database is not taken, and is as it was, outside a transaction.
pub record IsNotTaken {S : Type 0} (g : Ghosts S) (old new : Held S) (cause : StoreFault) : Type 0 where
  pub kept : HasCleanDisk (state g new) → Keeps (state g old) (state g new)
  pub settled : new.in_transaction ≡ false
  pub kind : IsAdoptFault cause
  -- a database without objects is not made a store for want of memory, or since it refused
  pub bare : old.schema ≡ no_schema → IsPlainFault cause
  -- with the tables of a store, of version 2 or of version 3, `meta` decides
  pub unmarked : HasCleanDisk (state g new) → HasStoreTables old.schema → cause ≡ fault.NotAStore → length ((state g old).now.trees 0) ≢ 1
  pub version : HasCleanDisk (state g new) → (n : ℤ) → HasStoreTables old.schema → cause ≡ fault.Version n → IsOfVersion n (state g old).now.trees
  -- with other tables it is what the database answers, if one of them has a name of ours
  pub other : old.schema ≢ no_schema → (HasStoreTables old.schema → ⊥) → has_our_name old.schema ≡ false → cause ≡ fault.Refused
  pub told : HasCleanDisk (state g new) → old.schema ≢ no_schema → (HasStoreTables old.schema → ⊥) → IsTrue (has_our_name old.schema)
      → (found : Result (Vec Row Global) Error) × TellsAs g old found × (cause ≡ told_cause found)
  -- it is refused for what it was, or for what lies outside it
  pub blames : HasCleanDisk (state g new) → cause ≡ fault.Refused → IsBlamed (state g old) (state g new) ⊎ IsRefusable g old

-- a crash leaves what it could leave before, or that store whole
abbrev pub LeavesMade : {S : Type 0} → Ghosts S → Held S → Held S → Type 0
LeavesMade g old new = Survives (state g old) (state g new) (λ db. IsTrue (state g old).is_open → IsMadeOf (state g old).now db)

-- not taken for this cause, whatever was left of the database
pub record IsNotTakenFor {S : Type 0} (g : Ghosts S) (old : Held S) (cause : StoreFault) : Type 0 where
  pub new : Held S
  pub refused : IsNotTaken g old new cause
  pub left : LeavesMade g old new
