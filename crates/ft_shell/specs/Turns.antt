-- Meaning. A session: the turns of an input's members, one after the other, each from what the turn before it left. What is done with a
-- unit is that of its kind; echo and bail are of the section "Special commands to sqlite3 (dot-commands)" of "Command Line Shell For
-- SQLite".
use Rattle.std.proofs.Common.{inl, inr}
use Rattle.std.specs.Prelude.{ℕ, ◌≡◌, ◌⊎◌, MatchBool, List, [], ◌∷◌, ◌++◌, take, drop}
use Rattle.sqlite.specs.Store.{Ghosts}
use Rattle.shell_text.specs.Units.{Member, Sql, Dot, Fault, members_of}
use Rattle.shell_text.specs.Dot.{dot_words_of}
use Rattle.ft_shell.specs.Shell.{Shell}
use Rattle.shell_io.specs.Texts.{split_text}
use Rattle.ft_statements.specs.Dots.{DotCommand, dot_command_of}
use Rattle.ft_shell.specs.DotTurns.{DotTurn}
use Rattle.ft_shell.specs.DotParts.{after_stop}
use Rattle.ft_shell.specs.StatementTurns.{StatementTurn}
use Rattle.ft_calls.specs.Kept.{Call}
use Rattle.ft_shell.specs.TurnCalls.{dot_in, statement_in}
use Rattle.shell_io.specs.Outcomes.{Answer, Outcome, blames, echo_text, echoed, lacks_memory, outcome_of}
use Rattle.ft_shell.specs.Effects.{Effects, outcome_in, idle, and_then}
use Rattle.shell_text.specs.Print.{Settings}

-- what is written of a member before it is run
abbrev pub echo_of : Settings → Member → List ℕ
echo_of settings (Fault line fault) = []
echo_of settings (Sql line text) = echo_text settings.echo text
echo_of settings (Dot line text) = echo_text settings.echo text

module _ {P S : Type 0} (g : Ghosts P) (h : Ghosts S) where
  -- a dot-command's turn, or, for want of memory, nothing
  abbrev pub DotOrLacks : Shell P S → Shell P S → Answer → DotCommand → Type 0
  DotOrLacks old new answer command = DotTurn g h old new answer command ⊎ ((new ≡ old) × (answer ≡ lacks_memory))

  -- what is done with a unit or a fault of the input
  abbrev pub Body : Member → Shell P S → Shell P S → Answer → Type 0
  Body (Fault line fault) old new told = (new ≡ old) × (told ≡ blames (split_text fault))
  Body (Sql line text) old new told = (new.settings ≡ old.settings) × (new.holds ≡ old.holds)
      × StatementTurn g h old.settings text old.plain new.plain old.full_text new.full_text told
  Body (Dot line text) old new told = DotOrLacks old new told (dot_command_of (dot_words_of (after_stop text)))

  -- the calls that this makes of the full-text tables
  abbrev pub calls_in : (member : Member) (old new : Shell P S) (told : Answer) → Body member old new told → List Call
  calls_in (Fault line fault) old new told it = []
  calls_in (Sql line text) old new told it = statement_in g h old.settings text old.plain new.plain old.full_text new.full_text told it.2
  calls_in (Dot line text) old new told (inl it) = dot_in g h old new told (dot_command_of (dot_words_of (after_stop text))) it
  calls_in (Dot line text) old new told (inr nothing) = []

  -- The answer is written with the line that the member begins on. The text of a unit is echoed where echo is on.
  abbrev pub Echoed : Member → Shell P S → Answer → Outcome → Type 0
  Echoed (Fault line fault) old body told = told ≡ outcome_of old.settings.bail line body
  Echoed (Sql line text) old body told = told ≡ echoed old.settings text (outcome_of old.settings.bail line body)
  Echoed (Dot line text) old body told = told ≡ echoed old.settings text (outcome_of old.settings.bail line body)

  -- the turn of one member, with the calls that it makes of the full-text tables
  pub record Turn (member : Member) (old new : Shell P S) (all : Effects) : Type 0 where
    pub body : Answer
    pub done : Body member old new body
    pub tells : Echoed member old body (outcome_in all)
    pub calls : all.calls ≡ calls_in member old new body done

  -- the turns of members, one after the other, up to one that ends the session
  abbrev pub Turns : List Member → Shell P S → Shell P S → Effects → Type 0
  Turns [] old new all = (new ≡ old) × (all ≡ idle)
  Turns (member ∷ members) old new all = (mid : Shell P S) × (first : Effects) × Turn member old mid first
      × MatchBool first.ends ((new ≡ mid) × (all ≡ first)) ((rest : Effects) × Turns members mid new rest × (all ≡ and_then first rest))

  -- a whole input, from the shell before it to the shell after it
  abbrev pub Session : List ℕ → Shell P S → Shell P S → Effects → Type 0
  Session input old new all = Turns (members_of input) old new all

  -- a front of an input's turns, before these members
  abbrev pub Begins : List ℕ → Shell P S → Shell P S → Effects → List Member → Type 0
  Begins input old new all next = (count : ℕ) × Turns (take count (members_of input)) old new all × (more : List Member)
      × (drop count (members_of input) ≡ next ++ more)
