-- Meaning. What a call does to a store.
use Rattle.std.specs.Prelude.{◌≡◌, ◌≢◌, ◌⊎◌, IsUtf8, pos, true, false, Result, List, [], ◌∷◌, map, IsTrue, IfErr, OnOk, OnErr}
use Rattle.std.specs.Borrow.{MutBor}
use Rattle.std.specs.List.{AllByRecursion}
use Rattle.sqlite.specs.declared.error.Error.{Error}
use Rattle.sqlite.specs.declared.error.Error.TheVariants.{SqliteFailure}
use Rattle.sqlite.specs.declared.error.ErrorCode.TheVariants as code
use Rattle.sqlite.specs.declared.types.Value.TheVariants as value
use Rattle.sqlite.specs.Order.{Row, column}
use Rattle.sqlite.specs.Tree.{Trees}
use Rattle.sqlite_trees.specs.Tree.{IsAscending, rowid}
use Rattle.sqlite_trees.specs.View.{is_int}
use Rattle.sqlite_catalog.specs.Listing.{IsSound}
use Rattle.sqlite.specs.Table.{Table}
use Rattle.sqlite.specs.Effect.{Database, IsDatabase}
use Rattle.sqlite.specs.State.{State, HasCleanDisk, Shows, Survives, KeepsCommit}
use Rattle.sqlite.specs.Store.{Ghosts}
use Rattle.sqlite.specs.Held.{Held, state}
use Rattle.ft_store.specs.declared.fault.StoreFault.{StoreFault}
use Rattle.ft_store.specs.declared.fault.StoreFault.TheVariants as fault
use Rattle.ft_values.specs.declared.fault.Fault.{Fault}
use Rattle.ft_values.specs.declared.fault.Fault.TheVariants as told
use Rattle.ft_store.specs.Tables.{store_schema}
use Rattle.ft_values.specs.declared.rows.Spot.{Spot}
use Rattle.ft_rows.specs.Store.{StoreValue, ListKey, Change, all_applied}
use Rattle.ft_store.specs.Rows.{value_of}

-- the rowids are integers, and no two rows have one
abbrev pub HasOwnRowids : List Row → Type 0
HasOwnRowids rows = IsAscending (λ a b. rowid a ≢ rowid b) rows × AllByRecursion (λ r. IsTrue (is_int (rowid r))) rows

-- so it is in each table of a schema
abbrev pub HaveOwnRowids : List Table → Trees → Type 0
HaveOwnRowids tables db = AllByRecursion (λ t. HasOwnRowids (db t.tree)) tables

-- `meta` has one row, with the version
abbrev pub IsMarked : Trees → Type 0
IsMarked db = map (λ (r : Row). column r 2) (db 0) ≡ value.Int (pos 3) ∷ []

-- a database that is a store: the tables of a store and nothing else, with their rules kept
pub record IsStore (db : Database) : Type 0 where
  pub schema : db.schema ≡ store_schema
  pub sound : IsDatabase db
  pub numbered : HaveOwnRowids store_schema.tables db.trees
  pub marked : IsMarked db.trees

-- what a step inside a transaction makes
pub record Steps (old new : State) (value : StoreValue) : Type 0 where
  pub store : IsStore new.now
  pub is : value_of new.now.trees ≡ value
  pub shown : Shows old new new.now old.committed true

-- what is seen stays, as long as the connection is open
abbrev pub Keeps : State → State → Type 0
Keeps old new = IsTrue new.is_open → (new.now ≡ old.now) × (new.committed ≡ old.committed) × IsTrue old.is_open

-- want of memory, or a refusal by the database
abbrev pub IsPlainFault : StoreFault → Type 0
IsPlainFault e = (e ≡ fault.Memory) ⊎ (e ≡ fault.Refused)

-- What a read leaves: nothing is changed and nothing is committed, and one that is answered leaves the connection open. It is refused for
-- such a reason.
pub record ReadsOnly {S X : Type 0} (g : Ghosts S) (old new : Held S) (result : Result X StoreFault) (IsFault : StoreFault → Type 0) : Type 0 where
  pub kept : HasCleanDisk (state g new) → Keeps (state g old) (state g new)
  pub live : HasCleanDisk (state g new) → OnOk result (IsTrue (state g new).is_open)
  pub mode : (state g new).in_transaction ≡ false
  pub survives : Survives (state g old) (state g new) (λ _. IsTrue (state g old).is_open → ⊥)
  pub fault : IfErr result IsFault

-- What one statement of a change does in a transaction: where the disk returned what was written and the call is Ok, the value is that of
-- `f`.
abbrev pub StepsOnOk : {S : Type 0} → Ghosts S → Held S → Held S → Result (Unit {0}) StoreFault → (StoreValue → StoreValue) → Type 0
StepsOnOk g old new result f =
    HasCleanDisk (state g new) → IsTrue (state g old).in_transaction → (IsTrue (state g old).is_open → IsStore (state g old).now)
    → OnOk result (Steps (state g old) (state g new) (f (value_of (state g old).now.trees)))

-- nothing is committed, and the last commit stays
abbrev pub KeepsLast : {S : Type 0} → Ghosts S → Held S → Held S → Type 0
KeepsLast g old new = HasCleanDisk (state g new) → KeepsCommit (state g old) (state g new)

abbrev pub LeavesNothing : {S : Type 0} → Ghosts S → Held S → Held S → Type 0
LeavesNothing g old new = Survives (state g old) (state g new) (λ _. ⊥)

-- What is done in a transaction leaves, whatever it is answered: the transaction is of the same connection, nothing is committed and the
-- last commit stays, and a crash leaves what it could leave before. It is refused for such a reason.
pub record StaysInside {S X : Type 0} (g : Ghosts S) (old new : MutBor (Held S)) (result : Result X StoreFault) (IsFault : StoreFault → Type 0) : Type 0 where
  pub same_reference : new.ghost_name ≡ old.ghost_name
  pub kept : KeepsLast g old.now new.now
  pub survives : LeavesNothing g old.now new.now
  pub fault : IfErr result IsFault

-- the same of a statement, which is refused for want of memory or by the database
abbrev pub StaysUncommitted : {S X : Type 0} → Ghosts S → MutBor (Held S) → MutBor (Held S) → Result X StoreFault → Type 0
StaysUncommitted g old new result = StaysInside g old new result IsPlainFault

-- the same of several statements, in a transaction of an open connection
abbrev pub StepsIfOpen : {S : Type 0} → Ghosts S → Held S → Held S → Result (Unit {0}) StoreFault → (StoreValue → StoreValue) → Type 0
StepsIfOpen g old new result f =
    HasCleanDisk (state g new) → IsTrue (state g old).in_transaction → IsTrue (state g old).is_open → IsStore (state g old).now
    → OnOk result (Steps (state g old) (state g new) (f (value_of (state g old).now.trees)))

-- so far in a transaction that began at `old`
pub record Goes (old now : State) (value : StoreValue) : Type 0 where
  pub going : IsTrue old.is_open → IsTrue now.is_open × IsStore now.now × (value_of now.now.trees ≡ value)
  pub was_open : IsTrue now.is_open → IsTrue old.is_open
  pub committed : now.committed ≡ old.committed
  pub inside : IsTrue now.in_transaction

-- trees that are a store with this value, as an adoption finds them
pub record IsStored (db : Trees) (value : StoreValue) : Type 0 where
  pub sound : IsSound store_schema db
  pub numbered : HaveOwnRowids store_schema.tables db
  pub marked : IsMarked db
  pub is : value_of db ≡ value

-- lists whose entries can be read: none is damaged, and the term of each is a text
abbrev pub AreTold : List (ListKey × List Spot) → Type 0
AreTold lists = AllByRecursion (λ l. (l.1 ≢ []) × IsUtf8 l.0.1) lists

-- why a read of lists is refused: a plain fault, or Damaged, where a list of places is not in its one form or a term is no text
abbrev pub IsReadFault : StoreFault → Type 0
IsReadFault e = IsPlainFault e ⊎ (e ≡ fault.Damaged)

-- Why changes are refused: a plain fault, or Damaged, where they can't be made.
abbrev pub IsChangeFault : Type 0 → StoreFault → Type 0
IsChangeFault CanBeMade e = IsPlainFault e ⊎ ((e ≡ fault.Damaged) × (CanBeMade → ⊥))

-- What changes of rows do in one transaction: all of them are made, and the database is open, or none is. A crash leaves what it could
-- leave before, or a store with all of them made.
pub record MakesAllOrNone (old new : State) (result : Result (Unit {0}) StoreFault) (changes : List Change) : Type 0 where
  pub all : HasCleanDisk new → OnOk result (IsStore new.now × (value_of new.now.trees ≡ all_applied changes (value_of old.now.trees)))
  pub none : HasCleanDisk new → OnErr result (Keeps old new)
  pub live : HasCleanDisk new → OnOk result (IsTrue old.is_open × IsTrue new.is_open)
  pub crash : Survives old new (λ db. IsTrue old.is_open → IsStored db (all_applied changes (value_of old.now.trees)))

-- What a call that makes changes in a transaction of its own does: that, where they can be made, and otherwise it may be refused as
-- damaged. It ends outside a transaction.
pub record ChangesAllOrNone (old new : State) (result : Result (Unit {0}) StoreFault) (CanBeMade : Type 0) (changes : List Change) : Type 0 where
  pub packable : OnOk result CanBeMade
  pub made : MakesAllOrNone old new result changes
  pub mode : new.in_transaction ≡ false
  pub fault : IfErr result (IsChangeFault CanBeMade)

-- the fault that an error of the database is: want of memory is Memory, any other is Refused
abbrev pub fault_of : Error → StoreFault
fault_of (SqliteFailure code.OutOfMemory) = fault.Memory
fault_of _ = fault.Refused

-- what is kept true of the connection of a store between calls
abbrev pub IsStoreIfOpen : State → Type 0
IsStoreIfOpen s = HasCleanDisk s → IsTrue s.is_open → IsStore s.now

-- the connection of a store between its calls, as they find it
pub record IsAtRest (s : State) : Type 0 where
  pub settled : s.in_transaction ≡ false
  pub store : IsStoreIfOpen s

-- what a full-text command answers where the store refused a call for this reason (own choice)
abbrev pub fault_of_read : StoreFault → Fault
fault_of_read fault.Memory = told.Memory
fault_of_read _ = told.Store
