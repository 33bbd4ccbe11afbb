-- Steps. What the statements that change rows make of a store, and what a function of a transaction makes of it that runs them.
use Rattle.std.specs.Prelude.{◌≢◌, ◌⊎◌, ℕ, All, List, Result, Ok, Err, IfOk, IsTrue}
use Rattle.std.specs.List.{sum_by}
use Rattle.std.specs.Borrow.{MutBor}
use Rattle.sqlite.specs.Order.{Row}
use Rattle.sqlite.specs.Tree.{Trees}
use Rattle.sqlite.specs.State.{State, HasCleanDisk, ExecutesInside}
use Rattle.sqlite.specs.Store.{Ghosts}
use Rattle.sqlite.specs.Held.{Held, state}
use Rattle.sqlite.specs.declared.error.Error.{Error}
use Rattle.sqlite.specs.declared.error.Error.TheVariants.{SqliteFailure}
use Rattle.sqlite.specs.declared.error.ErrorCode.TheVariants as code
use Rattle.ft_rows.specs.Store.{StoreValue, Change, all_applied}
use Rattle.ft_store.specs.declared.fault.StoreFault.{StoreFault}
use Rattle.ft_store.specs.Rows.{value_of}
use Rattle.ft_store.specs.Calls.{IsStore, Steps, Goes, StaysInside, IsChangeFault}
use Rattle.ft_store.specs.Blame.{IsBlamed}
use Rattle.ft_store.specs.Inside.{StepsInside, StepsInsideIfOpen}
use Rattle.ft_store.specs.Parts.{CanMake}
use Rattle.ft_store.specs.Puts.{IsFull, IsTooBig, AreGrown, FailsUnruled, KeepsRest, rows_put, CantPutAll, GrowsOnOk, GrowsIfOpen, BlamesRows, BlamesIfOpen}

-- the statement is refused, and not for want of memory
abbrev pub FailsInside : {S : Type 0} → Ghosts S → Held S → Held S → List ℕ → Row → Type 0
FailsInside g old new sql params = (e : Error) × (e ≢ SqliteFailure code.OutOfMemory) × ExecutesInside 0 sql params (state g old) (state g new) (Err e)

-- The statement takes rows out of one table of a store, by its tree: where it is done the value becomes that of `f`, and it is refused only
-- by what lies outside the store.
pub record TakesRows {S : Type 0} (g : Ghosts S) (sql : List ℕ) (params : Row) (tree : ℕ) (f : StoreValue → StoreValue) : Type 0 where
  pub done : (old new : Held S) (count : ℕ) → IsStore (state g old).now → ExecutesInside 0 sql params (state g old) (state g new) (Ok count)
      → Steps (state g old) (state g new) (f (value_of (state g old).now.trees)) × AreGrown 0 (state g old).now.trees (state g new).now.trees
      × KeepsRest tree (state g old).now.trees (state g new).now.trees
  pub refused : (old new : Held S) → (IsTrue (state g old).is_open → IsStore (state g old).now) → FailsInside g old new sql params
      → IsBlamed (state g old) (state g new)

-- Statements put a row of one table, unless it is full or so many values with so many bytes are too big: where the key is new one adds the
-- row, and otherwise another first takes out what has the key. The value becomes that of `f`.
pub record PutsRow {S : Type 0} (g : Ghosts S) (drop add : List ℕ) (key row : Row) (tree : ℕ) (f : StoreValue → StoreValue)
    (values count : ℕ) : Type 0 where
  pub lands : (old new : Held S) (count : ℕ) → IsStore (state g old).now → ExecutesInside 0 add row (state g old) (state g new) (Ok count)
      → Steps (state g old) (state g new) (f (value_of (state g old).now.trees)) × AreGrown 1 (state g old).now.trees (state g new).now.trees
      × KeepsRest tree (state g old).now.trees (state g new).now.trees
  pub fails : (old new : Held S) → (IsTrue (state g old).is_open → IsStore (state g old).now) → FailsUnruled g old new add row
      → IsBlamed (state g old) (state g new) ⊎ (IsFull 1 ((state g old).now.trees tree) ⊎ IsTooBig values count)
  pub gone : StoreValue → StoreValue
  pub takes : TakesRows g drop key tree gone
  pub adds : (old mid new : Held S) (count : ℕ) → Steps (state g old) (state g mid) (gone (value_of (state g old).now.trees))
      → ExecutesInside 0 add row (state g mid) (state g new) (Ok count)
      → Steps (state g old) (state g new) (f (value_of (state g old).now.trees)) × AreGrown 1 (state g mid).now.trees (state g new).now.trees
      × KeepsRest tree (state g mid).now.trees (state g new).now.trees
  pub refused : (old mid new : Held S) → Steps (state g old) (state g mid) (gone (value_of (state g old).now.trees))
      → AreGrown 0 (state g old).now.trees (state g mid).now.trees → FailsInside g mid new add row
      → IsBlamed (state g mid) (state g new) ⊎ (IsFull 1 ((state g old).now.trees tree) ⊎ IsTooBig values count)

-- What a function of a transaction makes of a store: where it is answered Ok the value becomes that of `f`, and so many rows were put at
-- most. It is refused only by what lies outside the store, or for such a reason in the rows that there were before the call.
pub record Changes {S : Type 0} (g : Ghosts S) (old new : MutBor (Held S)) (result : Result (Unit {0}) StoreFault)
    (f : StoreValue → StoreValue) (count : ℕ) (Why : Trees → Type 0) : Type 0 where
  pub done : StepsInside g old new result f
  pub grown : GrowsOnOk g old.now new.now result count
  pub refused : BlamesRows g old.now new.now result Why

-- the same, in an open database
pub record ChangesIfOpen {S : Type 0} (g : Ghosts S) (old new : MutBor (Held S)) (result : Result (Unit {0}) StoreFault)
    (f : StoreValue → StoreValue) (count : ℕ) (Why : Trees → Type 0) : Type 0 where
  pub done : StepsInsideIfOpen g old new result f
  pub grown : GrowsIfOpen g old.now new.now result count
  pub refused : BlamesIfOpen g old.now new.now result Why

-- rows are taken out, and no table grows
abbrev pub Drops : {S : Type 0} → Ghosts S → MutBor (Held S) → MutBor (Held S) → Result (Unit {0}) StoreFault → (StoreValue → StoreValue) → Type 0
Drops g old new result f = Changes g old new result f 0 (λ _. ⊥)

-- in a transaction row changes were made, in their order, and so many rows were put at most
pub record HasMade (old now : State) (changes : List Change) : Type 0 where
  pub goes : Goes old now (all_applied changes (value_of old.now.trees))
  pub grown : AreGrown (sum_by rows_put changes) old.now.trees now.now.trees

-- What a function of a transaction does with row changes: those are made that `made` gives of its answer. It is refused only as damaged,
-- where not all can be made, by what lies outside the store, or since one of all can't be put.
pub record MakesSome {S X : Type 0} (g : Ghosts S) (old new : MutBor (Held S)) (result : Result X StoreFault)
    (made : X → List Change) (all : List Change) : Type 0 where
  pub packable : IfOk result (λ x. All CanMake (made x))
  pub steps : HasCleanDisk (state g new.now) → IsTrue (state g old.now).in_transaction → (IsTrue (state g old.now).is_open → IsStore (state g old.now).now)
      → IfOk result (λ x. HasMade (state g old.now) (state g new.now) (made x))
  pub stays : StaysInside g old new result (IsChangeFault (All CanMake all))
  pub refused : BlamesRows g old.now new.now result (λ db. CantPutAll db all)

-- all are made
abbrev pub MakesAll : {S : Type 0} → Ghosts S → MutBor (Held S) → MutBor (Held S) → Result (Unit {0}) StoreFault → List Change → Type 0
MakesAll g old new result changes = MakesSome g old new result (λ _. changes) changes
