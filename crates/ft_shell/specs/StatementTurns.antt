-- Meaning. What a statement does in a session: plain SQL or full-text, by its class. That a full-text statement that spells no command, or
-- a text in which something is open, is refused is an own choice.
use Rattle.std.specs.Prelude.{ℕ, ◌≡◌, List, map, codes, Option, Some, None, MatchBool}
use Rattle.sqlite.specs.Store.{Ghosts}
use Rattle.sqlite.specs.Held.{Held}
use Rattle.shell_text.specs.Print.{Settings}
use Rattle.shell_text.specs.Words.{is_unclosed}
use Rattle.ft_content.specs.Views.{TableInfo}
use Rattle.ft_calls.specs.Kept.{FullText}
use Rattle.ft_statements.specs.Words.{sql_tokens}
use Rattle.ft_statements.specs.Statements.{Class, Plain, FullText as FullTextClass, class_of}
use Rattle.ft_shell.specs.FullTextTurns.{FullTextTurn}
use Rattle.ft_shell.specs.PlainTurns.{PlainTurn, OrNothing}
use Rattle.shell_io.specs.Outcomes.{Answer, blames}

-- the names of the full-text tables that are there
abbrev pub known_names : {S : Type 0} → FullText S → List (List ℕ)
known_names known = map (λ (t : TableInfo). t.name) known.tables

module _ {P S : Type 0} (g : Ghosts P) (h : Ghosts S) (settings : Settings) (text : List ℕ) (old new : Held P) (before after : FullText S) (told : Answer) where
  -- nothing is done, and this is the fault line
  abbrev pub Declines : List ℕ → Type 0
  Declines why = (new ≡ old) × (after ≡ before) × (told ≡ blames why)

  abbrev pub ClassTurn : Option Class → Type 0
  ClassTurn None = Declines (codes "unsupported full-text statement")
  ClassTurn (Some Plain) = PlainTurn g h settings text old new before after told
  ClassTurn (Some (FullTextClass command)) = (new ≡ old) × FullTextTurn h settings command before after told

  -- the turn of a statement's class; or, for want of memory, nothing
  abbrev pub StatementTurn : Type 0
  StatementTurn = OrNothing (MatchBool (is_unclosed text) (Declines (codes "incomplete input"))
      (ClassTurn (class_of (known_names before) (sql_tokens text)))) old new before after told
