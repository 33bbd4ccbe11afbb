-- What is so of the calls that a member's turn makes of the full-text tables: the command that a
-- full-text statement spells, or the one Insert of an import.
use Rattle.std.proofs.Common.{ℕ, ◌≡◌, ◌⊎◌, Bool, MatchBool, List, [], ◌∷◌, map, Option, Some, None, Result}
use Rattle.csv.specs.Reading.{AreRecords, strip_bom}
use Rattle.shell_text.specs.Print.{Settings}
use Rattle.shell_text.specs.Units.{Member, Sql, Dot, Fault}
use Rattle.shell_text.specs.Dot.{dot_words_of}
use Rattle.shell_text.specs.Records.{csv_reader}
use Rattle.shell_text.specs.Words.{is_unclosed}
use Rattle.ft_values.specs.declared.fault.Fault.{Fault as Cause}
use Rattle.ft_statements.specs.Statements.{FullText}
use Rattle.shell_io.specs.Sources.{Files, GivesFile}
use Rattle.plain_sql.specs.Imports.{delimiter_of, row_cells}
use Rattle.shell_io.specs.Records.{warnings, kept, records_in}
use Rattle.shell_io.specs.Outcomes.{Answer, Tells, blames}
use Rattle.ft_shell.proofs.Common.{Command, Insert, Reply, Call, Executed, Looked, Noted, sql_tokens, Class, Plain, class_of, DotCommand, Import, Importing, Tables, dot_command_of, made_name, Shell, answer_of_reply, known_names, width_in, answer_of_insert, after_stop}
use Rattle.csv.specs.declared.parser.State.TheVariants as csv

-- nothing is called, or the table that is made, if one may be, is noted once
abbrev pub MayNote : Option (List ℕ) → List Call → Type 0
MayNote None calls = calls ≡ []
MayNote (Some name) calls = (calls ≡ []) ⊎ ((is_done : Bool) × (calls ≡ Noted name is_done ∷ []))

-- nothing is called, or the noted names are read
abbrev pub MayRead : List Call → Type 0
MayRead calls = (calls ≡ []) ⊎ ((is_done : Bool) × (calls ≡ Looked is_done ∷ []))

-- the records that `csv` reads in the bytes of the file that an import names
pub record HasRecords (settings : Settings) (holds : Files) (what : Import) (found : List (List (List ℕ))) : Type 0 where
  pub delimiter : ℕ
  pub parts : delimiter_of what.csv settings ≡ Some delimiter
  pub bytes : List ℕ
  pub gives : GivesFile holds what.file bytes
  pub are : AreRecords (csv_reader delimiter) csv.StartRecord (strip_bom bytes) found

module _ (settings : Settings) (told : Answer) (calls : List Call) where
  -- the command is executed once, and this is told of its answer; or nothing is called, and a fault
  -- line says why
  abbrev pub OneCommand : Command → (Result Reply Cause → Answer) → Type 0
  OneCommand command due = (answer : Result Reply Cause) × (calls ≡ Executed command answer ∷ []) × Tells (due answer) told

  abbrev pub NoCall : Type 0
  NoCall = (calls ≡ []) × (why : List ℕ) × (told ≡ blames why)

  -- a full-text statement's command is executed, and the name of the table that a plain one makes
  -- is noted
  abbrev pub CallsOfClass : Option (List ℕ) → Option Class → Type 0
  CallsOfClass made None = calls ≡ []
  CallsOfClass made (Some Plain) = MayNote made calls
  CallsOfClass made (Some (FullText command)) = OneCommand command (answer_of_reply settings) ⊎ NoCall

  -- the records go into a full-text table by one Insert; a plain table that is made for them is
  -- noted
  abbrev pub CallsOfImport : Files → Import → Option ℕ → Type 0
  CallsOfImport holds what None = MayNote (Some what.table) calls
  CallsOfImport holds what (Some n) =
      ((found : List (List (List ℕ))) × HasRecords settings holds what found
      × OneCommand (Insert what.table None (map (row_cells n) (records_in (kept what.skip found)))) (answer_of_insert (warnings what.file n (kept what.skip found)))) ⊎ NoCall

-- what a member calls, over the tables and the files that are there, where this is told of it
abbrev pub CallsOfDot : {P S : Type 0} → Shell P S → Answer → List Call → DotCommand → Type 0
CallsOfDot old told calls (Importing what) = CallsOfImport old.settings told calls old.holds what (width_in old.full_text.tables what.table)
CallsOfDot old told calls Tables = MayRead calls
CallsOfDot old told calls _ = calls ≡ []

abbrev pub CallsOf : {P S : Type 0} → Member → Shell P S → Answer → List Call → Type 0
CallsOf (Fault line fault) old told calls = calls ≡ []
CallsOf (Sql line text) old told calls = MatchBool (is_unclosed text) (calls ≡ []) (CallsOfClass old.settings told calls (made_name (sql_tokens text)) (class_of (known_names old.full_text) (sql_tokens text)))
CallsOf (Dot line text) old told calls = CallsOfDot old told calls (dot_command_of (dot_words_of (after_stop text)))
