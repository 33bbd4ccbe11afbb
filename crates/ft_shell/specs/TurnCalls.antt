-- Meaning. The calls that a turn makes of the full-text tables, read off the turn: each command that it executes, with the answer that it
-- has, and each note. All of it is our own choice.
use Rattle.std.proofs.Common.{inl, inr}
use Rattle.std.specs.Prelude.{ℕ, ◌≡◌, Bool, true, false, MatchBool, List, [], ◌∷◌, map, codes, Option, Some, None, is_ok}
use Rattle.sqlite.specs.Store.{Ghosts}
use Rattle.sqlite.specs.Held.{Held}
use Rattle.shell_text.specs.Print.{Settings}
use Rattle.shell_text.specs.Words.{is_unclosed}
use Rattle.ft_commands.specs.Command.{Insert, Import}
use Rattle.ft_calls.specs.Kept.{FullText}
use Rattle.ft_calls.specs.Kept.{Call, Executed, Looked, Noted}
use Rattle.ft_statements.specs.Words.{sql_tokens}
use Rattle.ft_statements.specs.Plain.{asks, made_name, seeks}
use Rattle.ft_statements.specs.Statements.{Class, Plain, FullText as FullTextClass, class_of}
use Rattle.ft_statements.specs.Dots.{DotCommand, Nothing, SetMode, SetHeaders, SetSeparator, SetNull, SetEcho, SetBail, Print}
use Rattle.ft_statements.specs.Dots.{Importing, Tables, Quit, Usage, Unknown}
use Rattle.ft_shell.specs.Shell.{Shell}
use Rattle.shell_io.specs.Sources.{Files}
use Rattle.plain_sql.specs.Imports.{delimiter_of, row_cells}
use Rattle.ft_shell.specs.FullTextTurns.{MaybeNotes}
use Rattle.ft_shell.specs.PlainTurns.{CommandTurn, done, refused}
use Rattle.plain_sql.specs.PlainStatements.{QueryTurn}
use Rattle.ft_shell.specs.StatementTurns.{ClassTurn, Declines, StatementTurn, known_names}
use Rattle.ft_shell.specs.DotTurns.{DotTurn}
use Rattle.ft_shell.specs.ImportTurns as imports
use Rattle.ft_shell.specs.TablesTurns as tables
use Rattle.ft_shell.specs.TablesTurns.{TablesTurn}
use Rattle.ft_shell.specs.ImportTurns.{BytesTurn, DelimitedTurn, FileTurn, IntoNamed, IntoNew, PlainImport, TextImport, width_in}
use Rattle.shell_io.specs.Records.{kept, records_in}
use Rattle.shell_io.specs.Outcomes.{Answer}

module _ {S : Type 0} (h : Ghosts S) where
  -- the name of a plain table that was made is noted
  abbrev pub note_in : (name : Option (List ℕ)) (before after : FullText S) (told : Answer) → MaybeNotes h name before after told → List Call
  note_in None before after told it = []
  note_in (Some name) before after told it = Noted name (is_ok it.answer) ∷ []

  -- all records go into a full-text table by one Insert
  abbrev pub text_in : (what : Import) (n : ℕ) (rows : List (ℕ × List (List ℕ))) (before after : FullText S) (told : Answer)
      → TextImport h what n rows before after told → List Call
  text_in what n rows before after told (imports.executed it) = Executed (Insert what.table None (map (row_cells n) (records_in rows))) it.answer ∷ []
  text_in what n rows before after told (imports.no_memory same is) = []

module _ {P S : Type 0} (g : Ghosts P) (h : Ghosts S) (settings : Settings) where
  -- ---- statements

  module _ (text : List ℕ) (old new : Held P) (before after : FullText S) (told : Answer) where
    abbrev pub command_in : (name : Option (List ℕ)) → CommandTurn g h text name old new before after told → List Call
    command_in name (done count is notes) = note_in h name before after told notes
    command_in name (refused e is same tells) = []

    abbrev pub plain_in : (is_query : Bool) → MatchBool is_query (QueryTurn g settings text (seeks (sql_tokens text)) old new told × (after ≡ before))
        (CommandTurn g h text (made_name (sql_tokens text)) old new before after told) → List Call
    plain_in true it = []
    plain_in false it = command_in (made_name (sql_tokens text)) it

    -- a full-text statement executes its command
    abbrev pub class_in : (class : Option Class) → ClassTurn g h settings text old new before after told class → List Call
    class_in None it = []
    class_in (Some Plain) it = plain_in (asks (sql_tokens text)) it
    class_in (Some (FullTextClass command)) it = Executed command it.1.answer ∷ []

    abbrev pub closed_in : (is_open : Bool) → MatchBool is_open (Declines g h settings text old new before after told (codes "incomplete input"))
        (ClassTurn g h settings text old new before after told (class_of (known_names before) (sql_tokens text))) → List Call
    closed_in true it = []
    closed_in false it = class_in (class_of (known_names before) (sql_tokens text)) it

    abbrev pub statement_in : StatementTurn g h settings text old new before after told → List Call
    statement_in (inl it) = closed_in (is_unclosed text) it
    statement_in (inr nothing) = []

-- ---- imports

module _ {P S : Type 0} (g : Ghosts P) (h : Ghosts S) where
  module _ (what : Import) (rows : List (ℕ × List (List ℕ))) (old new : Held P) (before after : FullText S) (told : Answer) where
    -- a table that is made for them is noted
    abbrev pub new_in : IntoNew g what rows h old new before after told → List Call
    new_in (imports.no_header none same is_same is) = []
    new_in (imports.too_wide first rest are wide same is_same is) = []
    new_in (imports.made first rest are narrow commits notes) = Noted what.table (is_ok notes.answer) ∷ []
    new_in (imports.declined first rest are narrow why is_same is) = []
    new_in (imports.no_memory is_same is) = []

  module _ (what : Import) (rows : List (ℕ × List (List ℕ))) (old new : Held P) (before after : FullText S) (told : Answer) where
    abbrev pub table_in : PlainImport g what rows h old new before after told → List Call
    table_in (imports.there found tries same it) = []
    table_in (imports.new_table found tries it) = new_in what rows found new before after told it
    table_in (imports.untried tries same is) = []

  module _ (what : Import) (old new : Held P) (before after : FullText S) (told : Answer) where
    abbrev pub named_in : (rows : List (ℕ × List (List ℕ))) (n : Option ℕ) → IntoNamed g h what old new before after told rows n → List Call
    named_in rows (Some n) it = text_in h what n rows before after told it.1
    named_in rows None it = table_in what rows old new before after told it

    abbrev pub bytes_in : (delimiter : ℕ) (bytes : List ℕ) → BytesTurn g h what old new before after told delimiter bytes → List Call
    bytes_in delimiter bytes (imports.read found are (inl it)) = named_in (kept what.skip found) (width_in before.tables what.table) it
    bytes_in delimiter bytes (imports.read found are (inr nothing)) = []
    bytes_in delimiter bytes (imports.no_text is nothing) = []
    bytes_in delimiter bytes (imports.no_memory nothing) = []

    abbrev pub file_in : (holds : Files) (delimiter : ℕ) → FileTurn g h what old new before after told holds delimiter → List Call
    file_in holds delimiter (imports.fetched bytes gives it) = bytes_in delimiter bytes it
    file_in holds delimiter (imports.unfetched fault allowed nothing) = []

    abbrev pub delimited_in : (holds : Files) (delimiter : Option ℕ) → DelimitedTurn g h what old new before after told holds delimiter
        → List Call
    delimited_in holds None nothing = []
    delimited_in holds (Some delimiter) it = file_in holds delimiter it

-- ---- dot-commands

module _ {P S : Type 0} (g : Ghosts P) (h : Ghosts S) (old new : Shell P S) (told : Answer) where
  -- `.tables` reads the noted names
  abbrev pub tables_in : TablesTurn g h old.plain new.plain old.full_text new.full_text told → List Call
  tables_in (tables.lists noted looks leaves are lists) = Looked true ∷ []
  tables_in (tables.refused fault refuses looks leaves same tells cause) = Looked false ∷ []

  abbrev pub dot_in : (command : DotCommand) → DotTurn g h old new told command → List Call
  dot_in (Importing what) it = delimited_in g h what old.plain new.plain old.full_text new.full_text told old.holds
      (delimiter_of what.csv old.settings) it.1
  dot_in Tables it = tables_in it.1
  dot_in Nothing it = []
  dot_in (SetMode mode) it = []
  dot_in (SetHeaders shown) it = []
  dot_in (SetSeparator text) it = []
  dot_in (SetNull text) it = []
  dot_in (SetEcho on) it = []
  dot_in (SetBail on) it = []
  dot_in (Print words) it = []
  dot_in Quit it = []
  dot_in (Usage text) it = []
  dot_in Unknown it = []
