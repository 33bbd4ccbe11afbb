-- Meaning. What an import does to the plain database: one transaction, whole or not at all ("Importing files as CSV or other formats" of
-- "Command Line Shell For SQLite"; that an import is one command is an own choice). All that is said of a step has the premise that the
-- disk is clean as the step ends; then it was clean as the step began.
use Rattle.std.specs.Prelude.{ℕ, Bool, ◌≡◌, ◌≢◌, ◌⊎◌, ◌<◌, ◌≤◌, List, [], ◌∷◌, ◌++◌, map, true, false, Option, Some, None, Result, Ok}
use Rattle.std.specs.Prelude.{Err, IfOk, OnOk, IsErrOf, is_ok, IsTrue}
use Rattle.std.specs.Borrow.{MutBor}
use Rattle.sqlite_value.specs.Order.{Row}
use Rattle.sqlite_value.specs.declared.value.Value.{Value}
use Rattle.sqlite_value.specs.declared.value.Value.TheVariants as value
use Rattle.sqlite.specs.Store.{Ghosts}
use Rattle.sqlite.specs.Schema.{Schema}
use Rattle.sqlite.specs.Listing.{understood}
use Rattle.sqlite.specs.Held.{Held, state}
use Rattle.sqlite.specs.State.{State, HasCleanDisk, ExecutesInside, IsNotRun, IsRolledBack, IsUnchanged, KeepsCommit}
use Rattle.sqlite.specs.State as states
use Rattle.sqlite.specs.Steps.{FailsToCommit}
use Rattle.sqlite.specs.declared.error.Error.{Error}
use Rattle.sqlite.specs.declared.error.Error.TheVariants.{SqlInputError}
use Rattle.sqlite_resolve.specs.declared.error.CompileError.{CompileError}
use Rattle.plain_sql.specs.declared.plain_import.ImportFault.{ImportFault}
use Rattle.plain_sql.specs.declared.plain_import.ImportFault.TheVariants.{Refused}
use Rattle.plain_sql.specs.Imports.{create_text, insert_text}
use Rattle.plain_sql.specs.PlainStatements.{IfClean, is_memory_error}
use Rattle.shell_io.specs.Records.{fitted}

-- ---- the number of columns

-- whether so many values may be put into the table
abbrev pub takes_values : Schema → List ℕ → ℕ → Bool
takes_values schema name n = is_ok (understood schema (insert_text name n))

-- the table's number of columns: the one from 1 to 100 of values that may be put into it
pub record HasColumns (schema : Schema) (name : List ℕ) (n : ℕ) : Type 0 where
  pub least : 1 ≤ n
  pub most : n ≤ 100
  pub takes : takes_values schema name n ≡ true
  pub only : (m : ℕ) → 1 ≤ m → m ≤ 100 → takes_values schema name m ≡ true → m ≡ n

-- of the numbers from 1 up to one, without that one, the one of values that may be put into the table; none where there is none
abbrev pub IsOnlyBelow : Schema → List ℕ → ℕ → Option ℕ → Type 0
IsOnlyBelow schema name end None = (m : ℕ) → 1 ≤ m → m < end → takes_values schema name m ≡ true → ⊥
IsOnlyBelow schema name end (Some n) = (1 ≤ n) × (n < end) × (takes_values schema name n ≡ true)
    × ((m : ℕ) → 1 ≤ m → m < end → takes_values schema name m ≡ true → m ≡ n)

-- the database is as before, and so is the transaction, with its savepoints
pub record Stays (old new : State) : Type 0 where
  pub was_open : IsTrue new.is_open → IsTrue old.is_open
  pub now : new.now ≡ old.now
  pub committed : new.committed ≡ old.committed
  pub mode : new.in_transaction ≡ old.in_transaction
  pub marks : new.marks ≡ old.marks

-- Nothing is committed, and what was not is as before or undone. No transaction is begun: one that is open is that of before, and all of it
-- is as before.
pub record CommitsNothing (old new : State) : Type 0 where
  pub commit : KeepsCommit old new
  pub now : IsTrue new.is_open → (new.now ≡ old.now) ⊎ (new.now ≡ old.committed)
  pub none_begun : IsTrue new.in_transaction → Stays old new

-- ---- the transaction

-- a text is prepared, or is run with values
pub data Step : Type 0 where
  Prepare : (text : List ℕ) → Step
  Run : (text : List ℕ) → (values : Row) → Step

-- a field as a value: its text, or NULL
abbrev pub field_value : Option (List ℕ) → Value
field_value None = value.Null
field_value (Some text) = value.Text text

-- a record as a row of n values
abbrev pub row_values : ℕ → List (List ℕ) → Row
row_values n fields = map field_value (fitted n fields)

abbrev pub runs_of : List ℕ → ℕ → List (List (List ℕ)) → List Step
runs_of text n records = map (λ fields. Run text (row_values n fields)) records

-- the insertion is prepared once, and run for each record
abbrev pub insertions : List ℕ → ℕ → List (List (List ℕ)) → List Step
insertions name n records = Prepare (insert_text name n) ∷ runs_of (insert_text name n) n records

-- a table that is not there is made first, with columns of these names
abbrev pub import_steps : Option (List (List ℕ)) → List ℕ → ℕ → List (List (List ℕ)) → List Step
import_steps None name n records = insertions name n records
import_steps (Some columns) name n records = Run (create_text name columns) [] ∷ insertions name n records

module _ {P : Type 0} (g : Ghosts P) where
  -- the step is done
  abbrev pub Does : Step → Held P → Held P → Type 0
  Does (Prepare text) old new = IfClean g old new (IsUnchanged (state g old) (state g new))
  Does (Run text values) old new = (count : ℕ) × IfClean g old new (ExecutesInside 0 text values (state g old) (state g new) (Ok count))

  -- `sqlite` refuses the step
  abbrev pub Refuses : Step → Held P → Held P → Error → Type 0
  Refuses (Prepare text) old new e = IfClean g old new (IsNotRun (state g old) (state g new) text [] e)
  Refuses (Run text values) old new e = IfClean g old new (ExecutesInside 0 text values (state g old) (state g new) (Err e))

  -- steps, one after the other
  abbrev pub DoesAll : List Step → Held P → Held P → Type 0
  DoesAll [] old new = new ≡ old
  DoesAll (step ∷ steps) old new = (mid : Held P) × Does step old mid × DoesAll steps mid new

  -- `sqlite` refuses the step, and not for want of memory
  pub record IsRefused (step : Step) (old new : Held P) : Type 0 where
    pub error : Error
    pub cause : is_memory_error error ≡ false
    pub refused : Refuses step old new error

  -- `sqlite` refuses to say whether it understands a text: not for want of memory, and not since it doesn't understand it
  pub record IsUnsaid (text : List ℕ) (old new : Held P) : Type 0 where
    pub is : IsRefused (Prepare text) old new
    pub other : (why : CompileError) → is.error ≢ SqlInputError why

  -- a front of the steps is done, and the next one is refused
  pub record StopsAtStep (steps : List Step) (old new : Held P) : Type 0 where
    pub front : List Step
    pub step : Step
    pub rest : List Step
    pub split : steps ≡ front ++ step ∷ rest
    pub mid : Held P
    pub done : DoesAll front old mid
    pub refused : IsRefused step mid new

  -- a transaction is begun
  abbrev pub begun : Held P → Held P
  begun old = record old { in_transaction = true }

  -- the steps are done in one transaction, which is committed
  pub record CommitsAll (steps : List Step) (old new : Held P) : Type 0 where
    pub settled : old.in_transaction ≡ false
    pub last : Held P
    pub done : DoesAll steps (begun old) last
    pub committed : IfClean g last new (states.Commits (state g last) (state g new))

  -- Why it is not: a transaction is open; or `sqlite` refuses a step, and what was done is undone; or it refuses the commit.
  pub data Declines (steps : List Step) (old new : Held P) : Type 0 where
    busy : old.in_transaction ≡ true → new ≡ old → Declines steps old new
    stopped : (last : Held P) → old.in_transaction ≡ false → StopsAtStep steps (begun old) last
        → IfClean g last new (IsRolledBack (state g last) (state g new)) → Declines steps old new
    uncommitted : (last : Held P) (e : Error) → old.in_transaction ≡ false → DoesAll steps (begun old) last → is_memory_error e ≡ false
        → IfClean g last new (FailsToCommit (state g last) (state g new) e) → Declines steps old new

  -- Why a table has no number of columns: none is the only one; or `sqlite` refuses to say.
  pub data Uncounted (name : List ℕ) (old new : Held P) : Type 0 where
    not_one : IfClean g old new (Stays (state g old) (state g new) × ((n : ℕ) → HasColumns (state g old).now.schema name n → ⊥)) → Uncounted name old new
    untold : (n : ℕ) (mid : Held P) → IfClean g old mid (Stays (state g old) (state g mid)) → IsUnsaid (insert_text name n) mid new
        → Uncounted name old new

  -- It is tried whether so many values may be put into a table: that is answered, and the database is as before; or `sqlite` refuses to
  -- say.
  pub record TriesCount (name : List ℕ) (n : ℕ) (old new : Held P) (result : Result Bool ImportFault) : Type 0 where
    pub told : IfOk result (λ takes. IfClean g old new (Stays (state g old) (state g new) × (takes ≡ takes_values (state g old).now.schema name n)))
    pub refused : IsErrOf result Refused → IsUnsaid (insert_text name n) old new

  -- The columns of a table are counted, and the database is as before; or it has no number of them. Want of memory says nothing of it.
  pub record CountsColumns (name : List ℕ) (old new : Held P) (result : Result ℕ ImportFault) : Type 0 where
    pub counted : IfOk result (λ n. IfClean g old new (Stays (state g old) (state g new) × HasColumns (state g old).now.schema name n))
    pub uncounted : IsErrOf result Refused → Uncounted name old new

  -- where the disk is clean a transaction is open
  abbrev pub IsInside : Held P → Type 0
  IsInside h = HasCleanDisk (state g h) → IsTrue (state g h).in_transaction

  -- nothing of what was committed is changed
  abbrev pub KeepsLast : Held P → Held P → Type 0
  KeepsLast old new = IfClean g old new (KeepsCommit (state g old) (state g new))

  -- What is done in a transaction leaves, whatever it is answered: the transaction is of the same connection, nothing of what was committed
  -- is changed, and after an Ok the transaction is still open.
  pub record StaysInside {X : Type 0} (old new : MutBor (Held P)) (result : Result X ImportFault) : Type 0 where
    pub same_reference : new.ghost_name ≡ old.ghost_name
    pub kept : KeepsLast old.now new.now
    pub inside : OnOk result (IsInside new.now)

  -- what is made of a step: it is done, or `sqlite` refuses it; want of memory says nothing of it
  pub record TriesStep {X : Type 0} (step : Step) (old new : Held P) (result : Result X ImportFault) : Type 0 where
    pub done : OnOk result (Does step old new)
    pub refused : IsErrOf result Refused → IsRefused step old new

  -- so of steps, one after the other, up to one that is refused
  pub record TriesSteps {X : Type 0} (steps : List Step) (old new : Held P) (result : Result X ImportFault) : Type 0 where
    pub done : OnOk result (DoesAll steps old new)
    pub refused : IsErrOf result Refused → StopsAtStep steps old new
