-- Meaning. What an import into a plain table that is there does, and what is said of it ("Importing files as CSV or other formats" of
-- "Command Line Shell For SQLite"; that an import is one command, whole or not at all, and each refusal, are own choices).
use Rattle.std.specs.Prelude.{ℕ, ◌≡◌, List, codes, None}
use Rattle.sqlite.specs.Store.{Ghosts}
use Rattle.sqlite.specs.Held.{Held, state}
use Rattle.ft_commands.specs.Command.{Import}
use Rattle.plain_sql.specs.declared.plain_import.ImportFault.{ImportFault}
use Rattle.plain_sql.specs.declared.plain_import.ImportFault.TheVariants.{Refused, Memory}
use Rattle.plain_sql.specs.PlainImports.{HasColumns, Stays, CommitsNothing, import_steps, CommitsAll, Declines, Uncounted}
use Rattle.plain_sql.specs.PlainStatements.{IfClean}
use Rattle.shell_io.specs.Records.{records_in, warnings}
use Rattle.shell_io.specs.Outcomes.{Answer, blames, warned}

-- the words of what the plain database refused
abbrev pub fault_words : ImportFault → List ℕ
fault_words Refused = codes "import refused"
fault_words Memory = codes "out of memory"

module _ {P : Type 0} (g : Ghosts P) where
  -- it is refused, or memory is wanting: what was committed stays, and nothing else is said
  abbrev pub IsLeft : List ℕ → Held P → Held P → Answer → Type 0
  IsLeft why old new answer = IfClean g old new (CommitsNothing (state g old) (state g new)) × (answer ≡ blames why)

  module _ (what : Import) (rows : List (ℕ × List (List ℕ))) where
    -- Into a table that is there: all records in one transaction, and then the warnings.
    pub data IntoTable (old new : Held P) (answer : Answer) : Type 0 where
      into : (n : ℕ) (counted : Held P) → IfClean g old counted (Stays (state g old) (state g counted) × HasColumns (state g old).now.schema what.table n)
          → CommitsAll g (import_steps None what.table n (records_in rows)) counted new → answer ≡ warned (warnings what.file n rows) → IntoTable old new answer
      uncounted : Uncounted g what.table old new → IsLeft (codes "import refused") old new answer → IntoTable old new answer
      declined : (n : ℕ) (counted : Held P) → IfClean g old counted (Stays (state g old) (state g counted) × HasColumns (state g old).now.schema what.table n)
          → Declines g (import_steps None what.table n (records_in rows)) counted new
          → IsLeft (codes "import refused") old new answer → IntoTable old new answer
      no_memory : IsLeft (codes "out of memory") old new answer → IntoTable old new answer
