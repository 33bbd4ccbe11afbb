-- Meaning. What reading a command line gives.
use Rattle.std.specs.Prelude.{ℕ, ◌≡◌, ⊤, List, [], map, Result, Ok, Err, true, false, option_map, string_bytes, codes}
use Rattle.clap.specs.Faults.{fault_of}
use Rattle.clap.specs.Kinds.{IsAmong}
use Rattle.clap.specs.Matches.{found_of}
use Rattle.clap.specs.Simple.{matches_of}
use Rattle.clap.specs.Values.{kind_of}
use Rattle.clap.specs.Walk.{Row, first_of, rows_of}
use Rattle.clap.specs.declared.parser.matches.ArgMatches.{ArgMatches}
use Rattle.shell_text.specs.Print.{Settings}
use Rattle.ft_line.specs.Line.{Conflict, BadSeparator, LineSeen, Means, dashed_words, ft4sh, is_bad_separator}
use Rattle.ft_line.specs.Line.{line_of, settings_from, meaning_of, with_separator}
use Rattle.ft_line.specs.declared.line.Line.{Line}
use Rattle.ft_line.specs.declared.line.LineFault.{LineFault}
use Rattle.ft_line.specs.declared.line.LineFault.TheVariants as fault

-- a line as what it says
abbrev pub seen_line : Line → LineSeen
seen_line line = record { settings = line.settings; file = option_map string_bytes line.file; inputs = map string_bytes line.inputs.items }

-- the command takes the words, one dash read as two
abbrev pub IsTaken : List (List ℕ) → Type 0
IsTaken words = fault_of ft4sh (dashed_words words) ≡ []

-- the meaning of words that the command takes, or why they have none; an error of the command is one that it gives at these words
abbrev pub ReadsLine : List (List ℕ) → Result Line LineFault → Type 0
ReadsLine words (Ok line) = IsTaken words × (line_of words ≡ Means (seen_line line))
ReadsLine words (Err (fault.Words e)) = IsAmong (kind_of e) (fault_of ft4sh (dashed_words words))
ReadsLine words (Err fault.Conflict) = IsTaken words × (line_of words ≡ Conflict)
ReadsLine words (Err fault.BadSeparator) = IsTaken words × (line_of words ≡ BadSeparator)
ReadsLine words (Err fault.Memory) = ⊤

-- ---- the parts of it

-- what the command finds in words that it takes
abbrev pub HasMatches : List (List ℕ) → ArgMatches → Type 0
HasMatches words m = (fault_of ft4sh words ≡ []) × (rows_of (found_of m) ≡ matches_of ft4sh words)

-- why the command refuses words
abbrev pub IsRefusal : List (List ℕ) → LineFault → Type 0
IsRefusal words (fault.Words e) = IsAmong (kind_of e) (fault_of ft4sh words)
IsRefusal words fault.Conflict = ⊥
IsRefusal words fault.BadSeparator = ⊥
IsRefusal words fault.Memory = ⊤

-- the settings that were found
abbrev pub HasSettings : List Row → Result Settings LineFault → Type 0
HasSettings rows (Ok settings) = (is_bad_separator rows ≡ false) × (settings ≡ with_separator (first_of (codes "separator") rows) (settings_from rows))
HasSettings rows (Err (fault.Words e)) = ⊥
HasSettings rows (Err fault.Conflict) = ⊥
HasSettings rows (Err fault.BadSeparator) = is_bad_separator rows ≡ true
HasSettings rows (Err fault.Memory) = ⊤

-- the meaning of what was found, or why it has none
abbrev pub HasMeaning : List Row → Result Line LineFault → Type 0
HasMeaning rows (Ok line) = meaning_of rows ≡ Means (seen_line line)
HasMeaning rows (Err (fault.Words e)) = ⊥
HasMeaning rows (Err fault.Conflict) = meaning_of rows ≡ Conflict
HasMeaning rows (Err fault.BadSeparator) = meaning_of rows ≡ BadSeparator
HasMeaning rows (Err fault.Memory) = ⊤
