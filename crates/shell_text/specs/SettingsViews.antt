-- Steps. What clauses see of settings ("Command Line Shell For SQLite", section "Changing Output Formats").
use Rattle.std.specs.Prelude.{ℕ, List, Option, Some, None, string_bytes}
use Rattle.std.specs.declared.string.String.{String}
use Rattle.shell_text.specs.Print.{Settings, separator_of}
use Rattle.shell_text.specs.declared.settings.Mode.{Mode}
use Rattle.shell_text.specs.declared.settings.Settings.TheInside.{Inside}

-- the separator that was set, or else the mode's own
abbrev pub separator_in : {A : Type 0} → Mode → Option (String A) → List ℕ
separator_in m None = separator_of m
separator_in m (Some text) = string_bytes text

-- settings as what they say
abbrev pub settings_of : Inside → Settings
settings_of s = record {
  mode = s.mode;
  separator = separator_in s.mode s.separator;
  null = string_bytes s.null;
  headers = s.headers;
  echo = s.echo;
  bail = s.bail;
}
