-- A dot-command that does nothing but change a setting.
use Rattle.std.proofs.Common.{◌≡◌, ◌⊎◌, ℕ, List, refl, ap, inl, inr, Vec, String, Global, Bor}
use Rattle.shell_text.specs.Print.{Settings}
use Rattle.ft_statements.specs.declared.dots.DotCommand.{DotCommand}
use Rattle.ft_commands.specs.declared.command.Import.{Import}
use Rattle.shell_io.specs.Sources.{Files}
use Rattle.shell_io.specs.Outcomes.{Answer, lacks_memory}
use Rattle.ft_shell.proofs.Common.{Ghosts, Held, FullText, command_as, Sets, OnlySets, shell_of, DotOrLacks}
use Rattle.ft_statements.specs.declared.dots.DotCommand.TheVariants as commands
use Rattle.ft_statements.specs.Dots as forms

module _ {P S : Type 0} (g : Ghosts P) (h : Ghosts S) (plain : Held P) (known : FullText S) (holds : Files) (old new : Settings) (answer : Answer) where
  abbrev SetsOrLacks : forms.DotCommand → Type 0
  SetsOrLacks command = Sets command old new answer ⊎ ((new ≡ old) × (answer ≡ lacks_memory))

  sets : (command : forms.DotCommand) → SetsOrLacks command → OnlySets g h (shell_of old plain known holds) (shell_of new plain known holds) answer command
      ⊎ ((shell_of new plain known holds ≡ shell_of old plain known holds) × (answer ≡ lacks_memory))
  sets command (inl it) = inl (refl, refl, refl, it)
  sets command (inr none) = inr (ap (λ s. shell_of s plain known holds) none.0, none.1)

  pub sets_turn : (command : DotCommand) → ((words : Vec (String Global) Global) → command ≡ commands.Print words → ⊥) → ((what : Import) → command ≡ commands.Import what → ⊥) → (command ≡ commands.Tables → ⊥)
      → (command ≡ commands.Quit → ⊥) → ((usage : Bor (List ℕ)) → command ≡ commands.Usage usage → ⊥) → (command ≡ commands.Unknown → ⊥)
      → SetsOrLacks (command_as command) → DotOrLacks g h (shell_of old plain known holds) (shell_of new plain known holds) answer (command_as command)
  sets_turn commands.Nothing print import tables quit usage unknown it = sets (command_as commands.Nothing) it
  sets_turn (commands.Mode mode) print import tables quit usage unknown it = sets (command_as (commands.Mode mode)) it
  sets_turn (commands.Headers shown) print import tables quit usage unknown it = sets (command_as (commands.Headers shown)) it
  sets_turn (commands.Separator text) print import tables quit usage unknown it = sets (command_as (commands.Separator text)) it
  sets_turn (commands.Null text) print import tables quit usage unknown it = sets (command_as (commands.Null text)) it
  sets_turn (commands.Echo on) print import tables quit usage unknown it = sets (command_as (commands.Echo on)) it
  sets_turn (commands.Bail on) print import tables quit usage unknown it = sets (command_as (commands.Bail on)) it
  sets_turn (commands.Print words) print import tables quit usage unknown it = absurd (print words refl)
  sets_turn (commands.Import what) print import tables quit usage unknown it = absurd (import what refl)
  sets_turn commands.Tables print import tables quit usage unknown it = absurd (tables refl)
  sets_turn commands.Quit print import tables quit usage unknown it = absurd (quit refl)
  sets_turn (commands.Usage text) print import tables quit usage unknown it = absurd (usage text refl)
  sets_turn commands.Unknown print import tables quit usage unknown it = absurd (unknown refl)
