-- Steps. How far a query has gone whose rows are gathered one at a time.
use Rattle.std.specs.Prelude.{◌≡◌, ℕ, false, List, IsTrue}
use Rattle.sqlite.specs.Order.{Row}
use Rattle.sqlite.specs.State.{HasCleanDisk, IsUnchanged, Survives}
use Rattle.sqlite.specs.Given.{HasGiven}
use Rattle.sqlite.specs.Store.{Ghosts}
use Rattle.sqlite.specs.Held.{Held, state}

-- so far nothing is changed, and so it is of the rows that were given
pub record Gathering {S : Type 0} (g : Ghosts S) (sql : List ℕ) (params : Row) (old now : Held S) (AreMade : List Row → Type 0) : Type 0 where
  pub mode : now.in_transaction ≡ false
  pub survives : Survives (state g old) (state g now) (λ _. IsTrue (state g old).is_open → ⊥)
  pub given : HasCleanDisk (state g now) → (rows : List Row) × HasGiven g sql params now rows × IsUnchanged (state g old) (state g now) × AreMade rows
