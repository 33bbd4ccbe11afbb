-- Steps. What the functions of a transaction do, each as one relation: what it made, and the frame of all of them.
use Rattle.std.specs.Prelude.{ℕ, ℤ, Bool, not, MatchBool, Result, Ok, List, IsTrue, IfOk, OnOk}
use Rattle.std.specs.Borrow.{MutBor}
use Rattle.std.specs.Ordering.{int_cmp, int_eq}
use Rattle.std.specs.FinMap.Entries.{where_key}
use Rattle.sqlite.specs.Order.{Row}
use Rattle.sqlite.specs.Effect.{Database}
use Rattle.sqlite.specs.State.{HasCleanDisk, ExecutesInside, IsUnchanged}
use Rattle.sqlite.specs.Store.{Ghosts}
use Rattle.sqlite.specs.Held.{Held, state}
use Rattle.ft_rows.specs.Store.{cell_key_cmp, list_key_cmp, column_key_cmp, StoreValue}
use Rattle.ft_store.specs.declared.fault.StoreFault.{StoreFault}
use Rattle.ft_store.specs.Calls.{StepsOnOk, StepsIfOpen, StaysUncommitted}
use Rattle.ft_store.specs.Made.{MakesOnOk}

-- What a function of a transaction does: what it made where it is answered Ok, and what it leaves whatever it is answered.
pub record DoneInside {S X : Type 0} (g : Ghosts S) (old new : MutBor (Held S)) (result : Result X StoreFault) (Made : Type 0) : Type 0 where
  pub steps : Made
  pub stays : StaysUncommitted g old new result

-- the value becomes that of `f`
abbrev pub StepsInside : {S : Type 0} → Ghosts S → MutBor (Held S) → MutBor (Held S) → Result (Unit {0}) StoreFault → (StoreValue → StoreValue) → Type 0
StepsInside g old new result f = DoneInside g old new result (StepsOnOk g old.now new.now result f)

-- the same, in an open database
abbrev pub StepsInsideIfOpen : {S : Type 0} → Ghosts S → MutBor (Held S) → MutBor (Held S) → Result (Unit {0}) StoreFault → (StoreValue → StoreValue) → Type 0
StepsInsideIfOpen g old new result f = DoneInside g old new result (StepsIfOpen g old.now new.now result f)

-- of a database with the one property one with the other is made
abbrev pub MakesInside : {S : Type 0} → Ghosts S → MutBor (Held S) → MutBor (Held S) → Result (Unit {0}) StoreFault → (Database → Type 0)
    → (Database → Database → Type 0) → Type 0
MakesInside g old new result Before After = DoneInside g old new result (MakesOnOk g old.now new.now result Before After)

-- the statement is run
abbrev pub RunsOnOk : {S : Type 0} → Ghosts S → Held S → Held S → Result (Unit {0}) StoreFault → List ℕ → Row → Type 0
RunsOnOk g old new result sql params =
    HasCleanDisk (state g new) → IsTrue (state g old).in_transaction
    → OnOk result ((count : ℕ) × ExecutesInside 0 sql params (state g old) (state g new) (Ok count))

-- the statement is run, or it breaks a rule of a table and changes nothing
abbrev pub RunsOrKeeps : {S : Type 0} → Ghosts S → Held S → Held S → Result Bool StoreFault → List ℕ → Row → Type 0
RunsOrKeeps g old new result sql params =
    HasCleanDisk (state g new) → IsTrue (state g old).in_transaction
    → IfOk result (λ added. MatchBool added ((count : ℕ) × ExecutesInside 0 sql params (state g old) (state g new) (Ok count))
    (IsUnchanged (state g old) (state g new)))

-- without the rows of a table, those of one kind
abbrev pub without_name : ℤ → StoreValue → StoreValue
without_name tab v = record v { tables = where_key int_cmp (λ k. not (int_eq tab k)) v.tables }

abbrev pub without_columns : ℤ → StoreValue → StoreValue
without_columns tab v = record v { columns = where_key column_key_cmp (λ k. not (int_eq tab k.0)) v.columns }

abbrev pub without_skips : ℤ → StoreValue → StoreValue
without_skips tab v = record v { skipped = where_key column_key_cmp (λ k. not (int_eq tab k.0)) v.skipped }

abbrev pub without_contents : ℤ → StoreValue → StoreValue
without_contents tab v = record v { cells = where_key cell_key_cmp (λ k. not (int_eq tab k.0)) v.cells }

abbrev pub without_lists : ℤ → StoreValue → StoreValue
without_lists tab v = record v { lists = where_key list_key_cmp (λ k. not (int_eq tab k.0)) v.lists }

abbrev pub without_sizes : ℤ → StoreValue → StoreValue
without_sizes tab v = record v { sizes = where_key cell_key_cmp (λ k. not (int_eq tab k.0)) v.sizes }
