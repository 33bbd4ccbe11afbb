-- Meaning. How tables are listed ("Querying the database schema" of "Command Line Shell For SQLite"; that plain tables are listed by their
-- noted names, and only those that can be read, is an own choice).
use Rattle.std.specs.Prelude.{ℕ, ◌≡◌, ◌⊎◌, Bool, true, false, List, [], ◌∷◌, Option, Some, None}
use Rattle.sqlite.specs.Store.{Ghosts}
use Rattle.sqlite_value.specs.Order.{Row}
use Rattle.sqlite.specs.Held.{Held, state}
use Rattle.sqlite.specs.State.{FailsToQuery, Shown}
use Rattle.sqlite.specs.declared.error.Error.{Error}
use Rattle.plain_sql.specs.Imports.{reading_of}
use Rattle.plain_sql.specs.PlainStatements.{IfClean, is_memory_error}

module _ {P : Type 0} (g : Ghosts P) where
  -- Whether a table can be read: `sqlite` answers a reading of it, or refuses that for another cause than memory. Where it is not known
  -- nothing was tried, or memory was wanting.
  abbrev pub TellsTable : List ℕ → Held P → Held P → Option Bool → Type 0
  TellsTable name old new (Some true) = (rows : List Row) × Shown (reading_of name) [] (state g old) (state g new) rows
  TellsTable name old new (Some false) = (e : Error) × (is_memory_error e ≡ false) × FailsToQuery (reading_of name) [] (state g old) (state g new) e
  TellsTable name old new None = (new ≡ old) ⊎ ((e : Error) × (is_memory_error e ≡ true) × FailsToQuery (reading_of name) [] (state g old) (state g new) e)

  -- It was tried whether a table can be read: it can, it can't, or memory was wanting.
  abbrev pub Tries : List ℕ → Option Bool → Held P → Held P → Type 0
  Tries name can_read old new = IfClean g old new (TellsTable name old new can_read)

  -- of these names those of tables that can be read, each tried in turn
  abbrev pub Finds : List (List ℕ) → Held P → Held P → List (List ℕ) → Type 0
  Finds [] old new found = (new ≡ old) × (found ≡ [])
  Finds (name ∷ names) old new found = (mid : Held P) × (rest : List (List ℕ)) × Finds names mid new rest
      × ((Tries name (Some true) old mid × (found ≡ name ∷ rest)) ⊎ (Tries name (Some false) old mid × (found ≡ rest)))

  -- a front of these names was tried, each in turn; then memory was wanting
  abbrev pub StopsTrying : List (List ℕ) → Held P → Held P → Type 0
  StopsTrying [] old new = new ≡ old
  StopsTrying (name ∷ names) old new = (new ≡ old) ⊎ (Tries name None old new
      ⊎ ((mid : Held P) × (can_read : Bool) × Tries name (Some can_read) old mid × StopsTrying names mid new))
