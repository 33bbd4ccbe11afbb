-- Meaning. What a dot-command does in a session ("Special commands to sqlite3 (dot-commands)" of "Command Line Shell For SQLite").
use Rattle.std.specs.Prelude.{◌≡◌, codes}
use Rattle.sqlite.specs.Store.{Ghosts}
use Rattle.ft_shell.specs.Shell.{Shell}
use Rattle.shell_io.specs.Texts.{usage_text}
use Rattle.ft_statements.specs.Dots.{DotCommand, Nothing, SetMode, SetHeaders, SetSeparator, SetNull, SetEcho, SetBail, Print}
use Rattle.ft_statements.specs.Dots.{Importing, Tables, Quit, Usage, Unknown}
use Rattle.ft_statements.specs.Settings.{print_text}
use Rattle.ft_shell.specs.TablesTurns.{TablesTurn}
use Rattle.ft_shell.specs.ImportTurns.{ImportTurn}
use Rattle.ft_shell.specs.DotParts.{Sets}
use Rattle.shell_io.specs.Outcomes.{Answer, says, blames, quits}

module _ {P S : Type 0} (g : Ghosts P) (h : Ghosts S) (old new : Shell P S) (answer : Answer) where
  -- nothing is done, and this is the answer
  abbrev pub OnlyTells : Answer → Type 0
  OnlyTells due = (new ≡ old) × (answer ≡ due)

  -- only a setting is changed
  abbrev pub OnlySets : DotCommand → Type 0
  OnlySets command = (new.plain ≡ old.plain) × (new.full_text ≡ old.full_text) × (new.holds ≡ old.holds) × Sets command old.settings new.settings answer

  -- the settings and the files are as before
  abbrev pub LooksSame : Type 0
  LooksSame = (new.settings ≡ old.settings) × (new.holds ≡ old.holds)

  abbrev pub DotTurn : DotCommand → Type 0
  DotTurn Nothing = OnlySets Nothing
  DotTurn (SetMode mode) = OnlySets (SetMode mode)
  DotTurn (SetHeaders shown) = OnlySets (SetHeaders shown)
  DotTurn (SetSeparator text) = OnlySets (SetSeparator text)
  DotTurn (SetNull text) = OnlySets (SetNull text)
  DotTurn (SetEcho on) = OnlySets (SetEcho on)
  DotTurn (SetBail on) = OnlySets (SetBail on)
  DotTurn (Print words) = OnlyTells (says (print_text words))
  DotTurn (Importing what) = LooksSame × ImportTurn g h old.settings what old.plain new.plain old.full_text new.full_text answer old.holds
  DotTurn Tables = LooksSame × TablesTurn g h old.plain new.plain old.full_text new.full_text answer
  DotTurn Quit = OnlyTells quits
  DotTurn (Usage text) = OnlyTells (blames (usage_text text))
  DotTurn Unknown = OnlyTells (blames (codes "unknown dot-command"))
