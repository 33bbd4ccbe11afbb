-- Meaning. What dot-commands set and print ("Changing Output Formats" of "Command Line Shell For SQLite").
use Rattle.std.specs.Prelude.{ℕ, ◌≡◌, Bool, true, false, List, [], ◌∷◌, ◌++◌, Some, Result, OnOk, OnErr, IsErrOf}
use Rattle.std.specs.List.{join_with_byte}
use Rattle.shell_text.specs.Print.{Settings, may_separate, with_mode}
use Rattle.shell_text.specs.declared.settings.SetFault.{SetFault}
use Rattle.shell_text.specs.declared.settings.SetFault.TheVariants as fault
use Rattle.ft_statements.specs.Dots.{DotCommand, SetMode, SetHeaders, SetSeparator, SetNull, SetEcho, SetBail}

-- the settings after a command; a command that sets nothing leaves them
abbrev pub settings_after : DotCommand → Settings → Settings
settings_after (SetMode mode) settings = with_mode mode settings
settings_after (SetHeaders shown) settings = record settings { headers = Some shown }
settings_after (SetSeparator text) settings = record settings { separator = text }
settings_after (SetNull text) settings = record settings { null = text }
settings_after (SetEcho on) settings = record settings { echo = on }
settings_after (SetBail on) settings = record settings { bail = on }
settings_after _ settings = settings

-- whether a command's separator may be set
abbrev pub may_set : DotCommand → Settings → Bool
may_set (SetSeparator text) settings = may_separate settings text
may_set _ settings = true

-- a command sets what it may set, and after a fault all is as it was
pub record Applies {X : Type 0} (command : DotCommand) (old new : Settings) (result : Result X SetFault) : Type 0 where
  pub ok : OnOk result (new ≡ settings_after command old)
  pub good : OnOk result (may_set command old ≡ true)
  pub bad : IsErrOf result fault.BadSeparator → may_set command old ≡ false
  pub err : OnErr result (new ≡ old)

-- what `.print` writes: its words with a space between each two, and a line feed
abbrev pub print_text : List (List ℕ) → List ℕ
print_text words = join_with_byte 0x20 words ++ 10 ∷ []
