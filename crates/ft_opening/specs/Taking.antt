-- Steps. What is known of a database before it is taken as a store, and what each step of that leaves.
use Rattle.std.specs.Prelude.{◌≡◌, ◌≢◌, ℤ, false, Result, Err, length, IsTrue, IfErr, OnOk, OnErr}
use Rattle.sqlite.specs.Effect.{Database}
use Rattle.sqlite.specs.State.{State, HasCleanDisk, Survives}
use Rattle.sqlite.specs.Tree.{Trees}
use Rattle.ft_rows.specs.Store.{nothing_held}
use Rattle.ft_store.specs.declared.fault.StoreFault.{StoreFault}
use Rattle.ft_store.specs.declared.fault.StoreFault.TheVariants as fault
use Rattle.ft_store.specs.Rows.{value_of}
use Rattle.ft_store.specs.Calls.{HaveOwnRowids, IsStore, Keeps}
use Rattle.ft_opening.specs.declared.examine.Rowids.{Rowids}
use Rattle.ft_opening.specs.declared.examine.Rowids.TheVariants.{Apart, Unknown}
use Rattle.ft_opening.specs.declared.same.Layout.{Layout}
use Rattle.ft_opening.specs.Adopted.{no_schema, IsOfVersion}
use Rattle.ft_opening.specs.Older.{schema_of}

-- it has the tables of a store, of version 2 or of version 3
abbrev pub IsLaidOut : Layout → Database → Type 0
IsLaidOut layout db = db.schema ≡ schema_of layout

-- it has no objects
abbrev pub IsBare : Database → Type 0
IsBare db = db.schema ≡ no_schema

-- it is a store without rows
abbrev pub IsEmptyStore : Database → Type 0
IsEmptyStore db = IsStore db × (value_of db.trees ≡ nothing_held)

-- what is known of the rowids of its tables, as long as the disk returns what was written and the connection is open
abbrev pub AreAsKnown : Rowids → State → Type 0
AreAsKnown Apart s = HasCleanDisk s → IsTrue s.is_open → HaveOwnRowids s.now.schema.tables s.now.trees
AreAsKnown Unknown s = Unit {0}

-- Nothing is changed and nothing is committed, whatever is answered.
pub record LeavesAlone (old new : State) : Type 0 where
  pub kept : HasCleanDisk new → Keeps old new
  pub mode : new.in_transaction ≡ false
  pub survives : Survives old new (λ _. ⊥)

-- What one transaction makes of a database, and what it leaves whatever it is answered: all of it on Ok, with the connection open, and else
-- nothing; a crash leaves what it could leave before, or all of it. It is refused for such a reason.
pub record MakesWhole (old new : State) (result : Result (Unit {0}) StoreFault) (IsMade : Database → Type 0)
    (IsLeft : Trees → Type 0) (IsFault : StoreFault → Type 0) : Type 0 where
  pub all : HasCleanDisk new → OnOk result (IsMade new.now)
  pub none : HasCleanDisk new → OnErr result (Keeps old new)
  pub live : HasCleanDisk new → OnOk result (IsTrue new.is_open)
  pub mode : new.in_transaction ≡ false
  pub crash : Survives old new (λ db. IsTrue old.is_open → IsLeft db)
  pub fault : IfErr result IsFault

-- why a database with the tables of a store is none: `meta` hasn't one row, or has a version that is not taken
pub record IsJudged (db : Trees) (result : Result (Unit {0}) StoreFault) : Type 0 where
  pub unmarked : result ≡ Err fault.NotAStore → length (db 0) ≢ 1
  pub version : (n : ℤ) → result ≡ Err (fault.Version n) → IsOfVersion n db
