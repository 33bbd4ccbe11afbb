-- Meaning. Which dot-command a line's words are. A section named in quotes is one of the SQLite document "Command Line Shell For SQLite".
-- That names are exact, and that each command has just these words, is our own choice.
use Prim.Native.String.{String}
use Rattle.std.specs.Prelude.{◌≡◌, ◌≢◌, ◌⊎◌, ℕ, nat_le, nat_lt, Bool, true, false, ◌&&◌}
use Rattle.std.specs.Prelude.{◌||◌, List, [], ◌∷◌, length, Option, Some, None, unwrap_or, if◌then◌else◌, codes, bytes_eq}
use Rattle.std.specs.List.{list_all}
use Rattle.std.specs.Char.{is_ascii_digit}
use Rattle.std.specs.Str.{str_eq_ignore_ascii_case}
use Rattle.shell_text.specs.declared.settings.Mode.{Mode}
use Rattle.shell_text.specs.declared.settings.Mode.TheVariants as modes
use Rattle.ft_commands.specs.Command.{Import}
use Rattle.ft_statements.specs.Forms.{Other, Form, means, one, ends, ◌&◌, ◌·◌, when, balanced, Has}
use Rattle.ft_statements.specs.Values.{digits_value}
use Rattle.ft_statements.specs.Reading.{found, read}

pub data DotCommand : Type 0 where
  Nothing : DotCommand
  SetMode : (mode : Mode) → DotCommand
  SetHeaders : (shown : Bool) → DotCommand
  SetSeparator : (text : List ℕ) → DotCommand
  SetNull : (text : List ℕ) → DotCommand
  SetEcho : (on : Bool) → DotCommand
  SetBail : (on : Bool) → DotCommand
  Print : (words : List (List ℕ)) → DotCommand
  Importing : (what : Import) → DotCommand
  Tables : DotCommand
  Quit : DotCommand
  Usage : (text : List ℕ) → DotCommand
  Unknown : DotCommand

-- ---- single words

abbrev pub is_exact : String → List ℕ → Bool
is_exact text word = bytes_eq word (codes text)

abbrev pub any_word : Form (List ℕ) (List ℕ)
any_word = one Some

abbrev pub all_words : Form (List ℕ) (List (List ℕ))
all_words = balanced (λ word. Other)

-- list | csv | column | quote          ("Changing Output Formats")
abbrev pub mode_named : List ℕ → Option Mode
mode_named word =
    if is_exact "list" word then Some modes.List
    else if is_exact "csv" word then Some modes.Csv
    else if is_exact "column" word then Some modes.Column
    else if is_exact "quote" word then Some modes.Quote
    else None

abbrev pub is_same : String → List ℕ → Bool
is_same text word = str_eq_ignore_ascii_case word (codes text)

-- on | yes | 1 | off | no | 0          in any case of ASCII letters
abbrev pub switch_named : List ℕ → Option Bool
switch_named word =
    if is_same "on" word || is_same "yes" word || is_exact "1" word then Some true
    else if is_same "off" word || is_same "no" word || is_exact "0" word then Some false
    else None

-- one to seven digits, at most 1,000,000
abbrev pub skip_named : List ℕ → Option ℕ
skip_named word =
    if nat_lt 0 (length word) && nat_le (length word) 7 && list_all is_ascii_digit word && nat_le (digits_value word) 1000000
    then Some (digits_value word) else None

-- an option is no FILE
abbrev pub file_named : List ℕ → Option (List ℕ)
file_named word = if is_exact "--csv" word || is_exact "--skip" word then None else Some word

-- ---- [--csv] [--skip N] FILE TABLE          the options in any order ("Importing files as CSV or
-- other formats")

unfoldable pub may_csv : Form (List ℕ) Bool
may_csv = when (is_exact "--csv") (means true · any_word) (means false)

unfoldable pub may_skip : Form (List ℕ) (Option ℕ)
may_skip = when (is_exact "--skip") (means Some · any_word & one skip_named) (means None)

unfoldable pub options : Form (List ℕ) (Bool × Option ℕ)
options = when (is_exact "--csv") (means (λ csv skip. (csv, skip)) & may_csv & may_skip) (means (λ skip csv. (csv, skip)) & may_skip & may_csv)

unfoldable pub files : Form (List ℕ) (List ℕ × List ℕ)
files = means (λ file table. (file, table)) & one file_named & any_word

unfoldable pub import : Form (List ℕ) Import
import = means (λ options files. record { csv = options.0; skip = options.1; file = files.0; table = files.1 }) & options & files

-- ---- the commands

-- a name, how its command is used, and the form of the words after it
pub data Row : Type 1 where
  dot_row : (name usage : String) (form : Form (List ℕ) DotCommand) → Row

unfoldable pub rows : List {1} Row
rows =
    dot_row "mode" ".mode list|csv|column|quote" (means SetMode & one mode_named)
    ∷ dot_row "headers" ".headers BOOL" (means SetHeaders & one switch_named)
    ∷ dot_row "header" ".headers BOOL" (means SetHeaders & one switch_named)
    ∷ dot_row "separator" ".separator TEXT" (means SetSeparator & any_word)
    ∷ dot_row "nullvalue" ".nullvalue TEXT" (means SetNull & any_word)
    ∷ dot_row "print" ".print TEXT..." (means Print & all_words)
    ∷ dot_row "echo" ".echo BOOL" (means SetEcho & one switch_named)
    ∷ dot_row "bail" ".bail BOOL" (means SetBail & one switch_named)
    ∷ dot_row "import" ".import [--csv] [--skip N] FILE TABLE" (means Importing & import)
    ∷ dot_row "tables" ".tables" (means Tables)
    ∷ dot_row "quit" ".quit" (means Quit)
    ∷ dot_row "exit" ".exit" (means Quit)
    ∷ []

-- the command that the words after its name make, or how it is used where they make none
abbrev pub SaysRow : String → Form (List ℕ) DotCommand → List (List ℕ) → DotCommand → Type 0
SaysRow usage form words c = Has (form · ends) words c [] ⊎ (((d : DotCommand) → ¬ Has (form · ends) words d []) × (c ≡ Usage (codes usage)))

-- the first row of this name; nothing is known where there is none
abbrev pub SaysIn : List {1} Row → List ℕ → List (List ℕ) → DotCommand → Type 0
SaysIn [] name words c = c ≡ Unknown
SaysIn (dot_row own usage form ∷ rs) name words c = ((name ≡ codes own) × SaysRow usage form words c) ⊎ ((name ≢ codes own) × SaysIn rs name words c)

-- what a dot line says: nothing without words
abbrev pub Says : List (List ℕ) → DotCommand → Type 0
Says [] c = c ≡ Nothing
Says (name ∷ words) c = SaysIn rows name words c

-- ---- computed

abbrev pub said_in : List {1} Row → List ℕ → List (List ℕ) → DotCommand
said_in [] name words = Unknown
said_in (dot_row own usage form ∷ rs) name words =
    if is_exact own name then unwrap_or (found (read (form · ends) words)) (Usage (codes usage)) else said_in rs name words

unfoldable pub dot_command_of : List (List ℕ) → DotCommand
dot_command_of [] = Nothing
dot_command_of (name ∷ words) = said_in rows name words
