-- Meaning. What a statement of plain SQL does in a session ("Command Line Shell For SQLite"; that the name of a table that is made is noted
-- is an own choice).
use Rattle.std.specs.Prelude.{ℕ, ◌≡◌, ◌⊎◌, List, [], Option, Ok, Err, MatchBool}
use Rattle.sqlite.specs.Store.{Ghosts}
use Rattle.sqlite.specs.Held.{Held, state}
use Rattle.sqlite.specs.State.{Executes}
use Rattle.sqlite.specs.declared.error.Error.{Error}
use Rattle.shell_text.specs.Print.{Settings}
use Rattle.ft_calls.specs.Kept.{FullText}
use Rattle.ft_statements.specs.Plain.{asks, made_name, seeks}
use Rattle.ft_statements.specs.Words.{sql_tokens}
use Rattle.plain_sql.specs.PlainStatements.{TellsRefusal, IfClean, QueryTurn}
use Rattle.shell_io.specs.Outcomes.{Answer, lacks_memory}
use Rattle.ft_shell.specs.FullTextTurns.{MaybeNotes}

module _ {P S : Type 0} (g : Ghosts P) (h : Ghosts S) where
  -- CREATE, INSERT and whatever is no query; the name of a table that is made is noted
  pub data CommandTurn (text : List ℕ) (made : Option (List ℕ)) (old new : Held P) (before after : FullText S) (told : Answer) : Type 0 where
    done : (count : ℕ) → IfClean g old new (Executes text [] (state g old) (state g new) (Ok count)) → MaybeNotes h made before after told
        → CommandTurn text made old new before after told
    refused : (e : Error) → IfClean g old new (Executes text [] (state g old) (state g new) (Err e)) → after ≡ before
        → TellsRefusal (seeks (sql_tokens text)) e told
        → CommandTurn text made old new before after told

  -- a plain statement: a query, or a command
  abbrev pub PlainTurn : Settings → List ℕ → Held P → Held P → FullText S → FullText S → Answer → Type 0
  PlainTurn settings text old new before after told = MatchBool (asks (sql_tokens text))
      (QueryTurn g settings text (seeks (sql_tokens text)) old new told × (after ≡ before))
      (CommandTurn text (made_name (sql_tokens text)) old new before after told)

-- a unit's turn, or, for want of memory, nothing
abbrev pub OrNothing : {P S : Type 0} → Type 0 → Held P → Held P → FullText S → FullText S → Answer → Type 0
OrNothing Turn old new before after told = Turn ⊎ ((new ≡ old) × (after ≡ before) × (told ≡ lacks_memory))
