-- Meaning. What a command line means. The options are among those of "Command Line Shell For SQLite", section "Command-line Options", with
-- their meaning there; what is our own choice is marked so.
use Rattle.std.specs.Prelude.{ℕ, nat_lt, nat_le, Bool, true, false, not, ◌==◌, ◌&&◌, ◌||◌, List, [], ◌∷◌, ◌++◌, length, Option}
use Rattle.std.specs.Prelude.{Some, None, unwrap_or, if◌then◌else◌, codes}
use Rattle.std.specs.Char.{is_ascii_alphabetic}
use Rattle.std.specs.List.{list_all}
use Rattle.std.specs.Option.{option_map_or}
use Rattle.std.specs.Str.{bytes_eq}
use Rattle.clap.specs.Simple.{App, matches_of, new_app, new_rule, on_top, with_rule}
use Rattle.clap.specs.Walk.{Row, Rule, all_of, first_of}
use Rattle.clap.specs.declared.builder.action.ArgAction.TheVariants.{Set, SetTrue, Append}
use Rattle.shell_text.specs.Print.{Settings, first_settings, may_separate, with_mode}
use Rattle.shell_text.specs.declared.settings.Mode.{Mode}
use Rattle.shell_text.specs.declared.settings.Mode.TheVariants as mode

-- ---- words

-- one dash, then two or more ASCII letters and nothing else
abbrev pub is_single_dashed : List ℕ → Bool
is_single_dashed [] = false
is_single_dashed (dash ∷ letters) = (dash == 0x2D) && nat_le 2 (length letters) && list_all is_ascii_alphabetic letters

-- such a word has two dashes for one: options may be written with either (section "Command-line Options"; that only words of letters are
-- rewritten, and not `-separator=;`, is our own choice)
abbrev pub dashed : List ℕ → List ℕ
dashed word = if is_single_dashed word then 0x2D ∷ word else word

-- the words up to a word of two dashes, which ends the options, with two dashes for one, and those after it as they are
abbrev pub dashed_words : List (List ℕ) → List (List ℕ)
dashed_words [] = []
dashed_words (word ∷ words) = if bytes_eq word (codes "--") then word ∷ words else dashed word ∷ dashed_words words

-- ---- the command

-- an option without a value
abbrev pub flag : List ℕ → Rule
flag name = record (new_rule name) { long = Some name; action = Some SetTrue }

-- an option with a value
abbrev pub value_option : List ℕ → Rule
value_option name = record (new_rule name) { long = Some name; action = Some Set }

-- the first word that is no option (section "Command-line Options")
abbrev pub file : Rule
file = record (new_rule (codes "FILE")) { action = Some Set }

-- any number of SQL texts after it (section "Command-line Options"; that there may be several is our own choice)
abbrev pub sql : Rule
sql = record (new_rule (codes "SQL")) { action = Some Append }

abbrev pub with_rules : App → List Rule → App
with_rules app [] = app
with_rules app (rule ∷ rules) = with_rules (with_rule app rule) rules

-- the command before its arguments: it is given its words without the program's name, and has a version; `clap` adds `-h`, `--help`, `-V`
-- and `--version`
abbrev pub without_arguments : App
without_arguments = on_top (λ top. record top { no_binary_name = true; has_version = true }) (new_app (codes "ft4sh"))

-- the flags that say how a run goes and whether names are printed
abbrev pub switches : List Rule
switches = flag (codes "bail") ∷ flag (codes "echo") ∷ flag (codes "header") ∷ flag (codes "noheader") ∷ []

-- those that set the mode
abbrev pub modes : List Rule
modes = flag (codes "list") ∷ flag (codes "csv") ∷ flag (codes "column") ∷ flag (codes "quote") ∷ []

-- the options with a text
abbrev pub texts : List Rule
texts = value_option (codes "separator") ∷ value_option (codes "nullvalue") ∷ []

-- the command as `clap` sees it
abbrev pub ft4sh : App
ft4sh = with_rules (with_rules (with_rules (with_rules without_arguments switches) modes) texts) (file ∷ sql ∷ [])

-- ---- what `clap` found in the words

-- a flag is given where its value is `true`
abbrev pub is_given : List ℕ → List Row → Bool
is_given name rows = option_map_or (λ text. bytes_eq text (codes "true")) (first_of name rows) false

-- a line's settings, its file where a file is meant, and its inputs
pub record LineSeen : Type 0 where
  pub settings : Settings
  pub file : Option (List ℕ)
  pub inputs : List (List ℕ)

-- what a line means, or why it means nothing
pub data LineAnswer : Type 0 where
  Conflict : LineAnswer
  BadSeparator : LineAnswer
  Means : (line : LineSeen) → LineAnswer

-- the mode, where its flag is given
abbrev pub mode_if : Bool → Mode → List Mode
mode_if given m = if given then m ∷ [] else []

-- the modes whose flags are given
abbrev pub modes_in : List Row → List Mode
modes_in rows = mode_if (is_given (codes "list") rows) mode.List ++ mode_if (is_given (codes "csv") rows) mode.Csv
    ++ mode_if (is_given (codes "column") rows) mode.Column ++ mode_if (is_given (codes "quote") rows) mode.Quote

-- the modes set in turn
abbrev pub with_modes : List Mode → Settings → Settings
with_modes [] settings = settings
with_modes (m ∷ ms) settings = with_modes ms (with_mode m settings)

-- headers are always shown, or never, or neither is said
abbrev pub headers_in : List Row → Option Bool
headers_in rows = if is_given (codes "header") rows then Some true else if is_given (codes "noheader") rows then Some false else None

-- the text for NULL, empty where none is given
abbrev pub null_in : List Row → List ℕ
null_in rows = unwrap_or (first_of (codes "nullvalue") rows) []

-- no file, an empty one or `:memory:` means memory databases (section "Command-line Options"; the empty one is our own choice)
abbrev pub file_in : List Row → Option (List ℕ)
file_in rows = option_map_or (λ text. if (length text == 0) || bytes_eq text (codes ":memory:") then None else Some text) (first_of (codes "FILE") rows) None

-- the SQL texts
abbrev pub inputs_in : List Row → List (List ℕ)
inputs_in rows = unwrap_or (all_of (codes "SQL") rows) []

-- the settings but for the separator
abbrev pub settings_from : List Row → Settings
settings_from rows = record (with_modes (modes_in rows) first_settings) {
  null = null_in rows;
  headers = headers_in rows;
  echo = is_given (codes "echo") rows;
  bail = is_given (codes "bail") rows;
}

-- the separator, where one is given
abbrev pub with_separator : Option (List ℕ) → Settings → Settings
with_separator None settings = settings
with_separator (Some text) settings = record settings { separator = text }

-- two mode flags
abbrev pub has_two_modes : List Row → Bool
has_two_modes rows = nat_lt 1 (length (modes_in rows))

-- two mode flags, or both header flags, are refused (own choice)
abbrev pub is_conflict : List Row → Bool
is_conflict rows = has_two_modes rows || (is_given (codes "header") rows && is_given (codes "noheader") rows)

-- the separator is refused that the mode refuses: the mode is set before it, wherever both stand (own choice)
abbrev pub is_bad_separator : List Row → Bool
is_bad_separator rows = option_map_or (λ text. not (may_separate (settings_from rows) text)) (first_of (codes "separator") rows) false

-- what was found means this
abbrev pub meaning_of : List Row → LineAnswer
meaning_of rows =
    if is_conflict rows then Conflict
    else if is_bad_separator rows then BadSeparator
    else Means (record { settings = with_separator (first_of (codes "separator") rows) (settings_from rows); file = file_in rows; inputs = inputs_in rows })

-- what words mean that the command takes
abbrev pub line_of : List (List ℕ) → LineAnswer
line_of words = meaning_of (matches_of ft4sh (dashed_words words))
