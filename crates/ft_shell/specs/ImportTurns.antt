-- Meaning. What `.import` does in a session ("Importing files as CSV or other formats" of "Command Line Shell For SQLite"; that an import
-- is one command, whole or not at all, and each refusal, are own choices).
use Rattle.std.specs.Prelude.{ℕ, ◌≡◌, ◌⊎◌, ◌<◌, ◌≤◌, List, [], ◌∷◌, length, map, true, false, codes, Option, Some, None, option_map, Result, Ok, Err}
use Rattle.csv.specs.Reading.{AreRecords, strip_bom}
use Rattle.csv.specs.declared.parser.State.TheVariants as csv
use Rattle.sqlite.specs.Store.{Ghosts}
use Rattle.sqlite.specs.Held.{Held}
use Rattle.shell_text.specs.Print.{Settings}
use Rattle.shell_text.specs.Records.{IsNoText, csv_reader}
use Rattle.ft_values.specs.declared.fault.Fault.{Fault}
use Rattle.ft_commands.specs.Command.{Command, Insert, Reply}
use Rattle.ft_content.specs.Views.{TableInfo}
use Rattle.ft_documents.specs.Found.{info_named}
use Rattle.ft_calls.specs.Kept.{FullText}
use Rattle.ft_calls.specs.Kept.{Executed}
use Rattle.ft_calls.specs.Causes.{DoesForCause}
use Rattle.ft_commands.specs.Command.{Import}
use Rattle.ft_shell.specs.FullTextTurns.{NoteTurn}
use Rattle.plain_sql.specs.Imports.{delimiter_of, row_cells}
use Rattle.plain_sql.specs.IntoTables.{IsLeft, IntoTable}
use Rattle.plain_sql.specs.PlainImports.{import_steps, CommitsAll, Declines}
use Rattle.shell_io.specs.Records.{kept, records_in, warnings}
use Rattle.shell_io.specs.Sources.{Files, GivesFile, Refuses, fetch_words}
use Rattle.shell_io.specs.declared.source.SourceFault.{SourceFault}
use Rattle.plain_sql.specs.Listings.{Tries}
use Rattle.shell_io.specs.Texts.{fault_text}
use Rattle.shell_io.specs.Outcomes.{Answer, blames, lacks_memory, warned}

-- the number of columns of the first table that has this name, if one has
abbrev pub width_in : List TableInfo → List ℕ → Option ℕ
width_in tables name = option_map (λ (t : TableInfo). length t.columns) (info_named tables name)

-- ---- into a full-text table

-- what is said of the one command: the warnings, or the fault it deserves
abbrev pub answer_of_insert : List ℕ → Result Reply Fault → Answer
answer_of_insert lines (Ok reply) = warned lines
answer_of_insert lines (Err fault) = blames (fault_text fault)

-- The one command is executed, and what came of it is said.
pub record InsertTurn {S : Type 0} (h : Ghosts S) (command : Command) (lines : List ℕ) (before after : FullText S) (told : Answer) : Type 0 where
  pub answer : Result Reply Fault
  pub does : DoesForCause h before (Executed command answer) after
  pub tells : told ≡ answer_of_insert lines answer

-- All records go in by one Insert, or none does. Where memory is wanting before it, nothing is done.
pub data TextImport {S : Type 0} (h : Ghosts S) (what : Import) (n : ℕ) (rows : List (ℕ × List (List ℕ))) (before after : FullText S)
    (told : Answer) : Type 0 where
  executed : InsertTurn h (Insert what.table None (map (row_cells n) (records_in rows))) (warnings what.file n rows) before after told
      → TextImport h what n rows before after told
  no_memory : after ≡ before → told ≡ lacks_memory → TextImport h what n rows before after told

-- ---- into a plain table

module _ {P : Type 0} (g : Ghosts P) (what : Import) (rows : List (ℕ × List (List ℕ))) where
  -- Into a table that the first record left names the columns of: it is made in the same transaction, and noted after the warnings.
  module _ {S : Type 0} (h : Ghosts S) where
    pub data IntoNew (old new : Held P) (before after : FullText S) (told : Answer) : Type 0 where
      no_header : rows ≡ [] → new ≡ old → after ≡ before → told ≡ blames (codes "no header record") → IntoNew old new before after told
      too_wide : (first : ℕ × List (List ℕ)) (rest : List (ℕ × List (List ℕ))) → rows ≡ first ∷ rest → 100 < length first.1 → new ≡ old → after ≡ before
          → told ≡ blames (codes "import refused") → IntoNew old new before after told
      made : (first : ℕ × List (List ℕ)) (rest : List (ℕ × List (List ℕ))) → rows ≡ first ∷ rest → length first.1 ≤ 100
          → CommitsAll g (import_steps (Some first.1) what.table (length first.1) (records_in rest)) old new
          → NoteTurn h (warnings what.file (length first.1) rest) what.table before after told → IntoNew old new before after told
      declined : (first : ℕ × List (List ℕ)) (rest : List (ℕ × List (List ℕ))) → rows ≡ first ∷ rest → length first.1 ≤ 100
          → Declines g (import_steps (Some first.1) what.table (length first.1) (records_in rest)) old new
          → after ≡ before → IsLeft g (codes "import refused") old new told → IntoNew old new before after told
      no_memory : after ≡ before → IsLeft g (codes "out of memory") old new told → IntoNew old new before after told

    -- the table is there where `sqlite` answers a reading of it
    pub data PlainImport (old new : Held P) (before after : FullText S) (told : Answer) : Type 0 where
      there : (found : Held P) → Tries g what.table (Some true) old found → after ≡ before → IntoTable g what rows found new told
          → PlainImport old new before after told
      new_table : (found : Held P) → Tries g what.table (Some false) old found → IntoNew found new before after told → PlainImport old new before after told
      untried : Tries g what.table None old new → after ≡ before → told ≡ lacks_memory → PlainImport old new before after told

-- ---- the file

module _ {P S : Type 0} (g : Ghosts P) (h : Ghosts S) (what : Import) (old new : Held P) (before after : FullText S) (told : Answer) where
  -- nothing is done, and this is the fault line
  abbrev pub Declined : List ℕ → Type 0
  Declined why = (new ≡ old) × (after ≡ before) × (told ≡ blames why)

  -- a full-text table hides a plain one of its name
  abbrev pub IntoNamed : List (ℕ × List (List ℕ)) → Option ℕ → Type 0
  IntoNamed rows (Some n) = (new ≡ old) × TextImport h what n rows before after told
  IntoNamed rows None = PlainImport g what rows h old new before after told

  -- the file's records go into the table of that name, but for those that are skipped
  abbrev pub RecordsTurn : List (List (List ℕ)) → Type 0
  RecordsTurn found = IntoNamed (kept what.skip found) (width_in before.tables what.table) ⊎ Declined (codes "out of memory")

  -- the file's bytes are read as records of CSV, if they are a text
  pub data BytesTurn (delimiter : ℕ) (bytes : List ℕ) : Type 0 where
    read : (found : List (List (List ℕ))) → AreRecords (csv_reader delimiter) csv.StartRecord (strip_bom bytes) found → RecordsTurn found
        → BytesTurn delimiter bytes
    no_text : IsNoText (csv_reader delimiter) bytes → Declined (codes "file is not UTF-8") → BytesTurn delimiter bytes
    no_memory : Declined (codes "out of memory") → BytesTurn delimiter bytes

  -- the file's bytes are those that its name holds, if they are there, or their fetch is refused by this fault
  pub data FileTurn (holds : Files) (delimiter : ℕ) : Type 0 where
    fetched : (bytes : List ℕ) → GivesFile holds what.file bytes → BytesTurn delimiter bytes → FileTurn holds delimiter
    unfetched : (fault : SourceFault) → Refuses holds what.file fault → Declined (fetch_words fault) → FileTurn holds delimiter

  -- the delimiter is tested first
  abbrev pub DelimitedTurn : Files → Option ℕ → Type 0
  DelimitedTurn holds None = Declined (codes "bad separator")
  DelimitedTurn holds (Some delimiter) = FileTurn holds delimiter

-- a file's records go into a table, by the settings
abbrev pub ImportTurn : {P S : Type 0} → Ghosts P → Ghosts S → Settings → Import → Held P → Held P → FullText S → FullText S → Answer → Files → Type 0
ImportTurn g h settings what old new before after told holds = DelimitedTurn g h what old new before after told holds (delimiter_of what.csv settings)
