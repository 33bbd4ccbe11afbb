-- Steps. What the functions of a connection outside a transaction find and leave, each family with one frame.
use Rattle.std.specs.Prelude.{◌≡◌, ℕ, false, Result, Err, List, Vec, map, IsTrue, IfOk, IfErr}
use Rattle.std.specs.declared.alloc.Global.{Global}
use Rattle.sqlite.specs.Effect.{Database}
use Rattle.sqlite.specs.Given.{IsPlain}
use Rattle.sqlite.specs.Listing.{understood}
use Rattle.sqlite.specs.Order.{Row}
use Rattle.sqlite.specs.State.{State, HasCleanDisk, Shown}
use Rattle.sqlite.specs.Store.{Ghosts}
use Rattle.sqlite.specs.Held.{Held, state}
use Rattle.ft_values.specs.declared.rows.Spot.{Spot}
use Rattle.ft_values.specs.declared.rows.ListRow.{ListRow}
use Rattle.ft_values.specs.declared.rows.EntryRow.{EntryRow}
use Rattle.ft_rows.specs.Store.{ListKey}
use Rattle.ft_rows.specs.Shown.{shown_entry, entries_of, AreListRows, SomeDamaged}
use Rattle.ft_store.specs.declared.fault.StoreFault.{StoreFault}
use Rattle.ft_store.specs.declared.fault.StoreFault.TheVariants as fault
use Rattle.ft_store.specs.Calls.{AreTold, IsPlainFault, IsReadFault, ReadsOnly}

-- Outside a transaction, with a database that has this property as long as the disk returns what was written and the connection is open.
pub record IsSettled (Has : Database → Type 0) (s : State) : Type 0 where
  pub settled : s.in_transaction ≡ false
  pub shown : HasCleanDisk s → IsTrue s.is_open → Has s.now

-- the text is a plain one under its tables
abbrev pub IsPlainIn : List ℕ → Database → Type 0
IsPlainIn sql db = IsPlain (understood db.schema sql)

-- What is answered without a database: on Ok such a value, and otherwise a plain fault.
pub record FindsOrRefuses {X : Type 0} (result : Result X StoreFault) (Is : X → Type 0) : Type 0 where
  pub found : IfOk result Is
  pub fault : IfErr result IsPlainFault

-- What a read answers and leaves: where the disk returned what was written, an answer of Ok is such a value.
pub record ReadsFor {S X : Type 0} (g : Ghosts S) (old new : Held S) (result : Result X StoreFault) (Is : X → Type 0) : Type 0 where
  pub rows : HasCleanDisk (state g new) → IfOk result Is
  pub read : ReadsOnly g old new result IsPlainFault

-- What a read of lists answers and leaves: where the disk returned what was written, an answer of Ok is such a value, and Damaged means
-- that one of the lists is, or has a term that is no text, and leaves the connection open.
pub record ReadsLists {S X : Type 0} (g : Ghosts S) (old new : Held S) (result : Result X StoreFault) (Are : X → Type 0) (IsDamaged : Type 0) : Type 0 where
  pub rows : HasCleanDisk (state g new) → IfOk result Are
  pub damaged : HasCleanDisk (state g new) → result ≡ Err fault.Damaged → IsDamaged
  pub stays : HasCleanDisk (state g new) → result ≡ Err fault.Damaged → IsTrue (state g new).is_open
  pub read : ReadsOnly g old new result IsReadFault

-- each list that was asked for, with its places
abbrev pub GivesLists : {S : Type 0} → Ghosts S → Held S → Held S → Result (Vec ListRow Global) StoreFault → List (ListKey × List Spot) → Type 0
GivesLists g old new result asked = ReadsLists g old new result (λ found. AreListRows asked found.items) (SomeDamaged asked)

-- each place in them, with its term, where the terms are read: each is a text
abbrev pub GivesTold : {S : Type 0} → Ghosts S → Held S → Held S → Result (Vec EntryRow Global) StoreFault → List (ListKey × List Spot) → Type 0
GivesTold g old new result asked = ReadsLists g old new result (λ found. (map shown_entry found.items ≡ entries_of asked) × AreTold asked) (¬ AreTold asked)

-- the query gives rows with this property
abbrev pub GivesRows : {S : Type 0} → Ghosts S → Held S → Held S → List ℕ → Row → (List Row → Type 0) → Type 0
GivesRows g old new sql params Are = (rows : List Row) × Shown sql params (state g old) (state g new) rows × Are rows
