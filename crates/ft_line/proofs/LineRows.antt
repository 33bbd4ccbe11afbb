-- Worked command lines, as equations that the checker computes.
use Rattle.std.proofs.Common.{◌≡◌, refl, [], ◌∷◌, List, ℕ, Some, None, true, false, codes}
use Rattle.clap.specs.Faults.{fault_of}
use Rattle.clap.specs.Kinds.{Kinds}
use Rattle.clap.specs.declared.error.kind.ErrorKind.TheVariants as kind
use Rattle.clap.proofs.OnLiterals.{clap_on_literals}
use Rattle.shell_text.specs.Print.{first_settings}
use Rattle.shell_text.specs.declared.settings.Mode.TheVariants as mode
use Rattle.ft_line.specs.Line.{BadSeparator, Conflict, Means, dashed_words, ft4sh, line_of}

-- why the command refuses words, one dash read as two
abbrev faults : List (List ℕ) → Kinds
faults words = fault_of ft4sh (dashed_words words)

-- words with one dash, and an empty file
abbrev headed : List (List ℕ)
headed = codes "-header" ∷ codes "-separator" ∷ codes ";" ∷ [] ∷ codes "SELECT 1 AS n, 2 AS m;" ∷ []

headed_is : line_of headed ≡ Means (record {
  settings = record first_settings { separator = codes ";"; headers = Some true };
  file = None;
  inputs = codes "SELECT 1 AS n, 2 AS m;" ∷ [];
})
unfolding clap_on_literals
headed_is = refl

headed_taken : faults headed ≡ []
unfolding clap_on_literals
headed_taken = refl

-- two modes
two_modes : line_of (codes "--list" ∷ codes "--csv" ∷ []) ≡ Conflict
unfolding clap_on_literals
two_modes = refl

-- a separator that csv mode refuses, before the mode or after it
bad_separator : line_of (codes "--csv" ∷ codes "--separator" ∷ codes "ab" ∷ []) ≡ BadSeparator
unfolding clap_on_literals
bad_separator = refl

bad_separator_first : line_of (codes "--separator" ∷ codes "ab" ∷ codes "--csv" ∷ []) ≡ BadSeparator
unfolding clap_on_literals
bad_separator_first = refl

-- a separator before the mode
separator_first : line_of (codes "--separator" ∷ codes ";" ∷ codes "--csv" ∷ []) ≡ Means (record {
  settings = record first_settings { mode = mode.Csv; separator = codes ";" };
  file = None;
  inputs = [];
})
unfolding clap_on_literals
separator_first = refl

-- memory databases, and two inputs
memory : line_of (codes ":memory:" ∷ codes "SELECT 'x" ∷ codes "SELECT 2;" ∷ []) ≡ Means (record {
  settings = first_settings;
  file = None;
  inputs = codes "SELECT 'x" ∷ codes "SELECT 2;" ∷ [];
})
unfolding clap_on_literals
memory = refl

bailing : line_of (codes "--bail" ∷ codes ":memory:" ∷ codes "SELECT 'x" ∷ codes "SELECT 2;" ∷ []) ≡ Means (record {
  settings = record first_settings { bail = true };
  file = None;
  inputs = codes "SELECT 'x" ∷ codes "SELECT 2;" ∷ [];
})
unfolding clap_on_literals
bailing = refl

-- column mode without headers
unheaded : line_of (codes "--noheader" ∷ codes "--column" ∷ [] ∷ codes "SELECT 1 AS n;" ∷ []) ≡ Means (record {
  settings = record first_settings { mode = mode.Column; headers = Some false };
  file = None;
  inputs = codes "SELECT 1 AS n;" ∷ [];
})
unfolding clap_on_literals
unheaded = refl

-- after two dashes words stay as they are
behind_dashes : line_of (codes "-echo" ∷ codes "--" ∷ codes "-list" ∷ codes "-csv" ∷ []) ≡ Means (record {
  settings = record first_settings { echo = true };
  file = Some (codes "-list");
  inputs = codes "-csv" ∷ [];
})
unfolding clap_on_literals
behind_dashes = refl

behind_dashes_taken : faults (codes "-echo" ∷ codes "--" ∷ codes "-list" ∷ codes "-csv" ∷ []) ≡ []
unfolding clap_on_literals
behind_dashes_taken = refl

-- help, an unknown option, one dash before a word that isn't letters alone, and a flag given twice
help : faults (codes "--help" ∷ []) ≡ kind.DisplayHelp ∷ []
unfolding clap_on_literals
help = refl

unknown : faults (codes "--nope" ∷ []) ≡ kind.UnknownArgument ∷ []
unfolding clap_on_literals
unknown = refl

one_dash : faults (codes "-separator=;" ∷ []) ≡ kind.UnknownArgument ∷ []
unfolding clap_on_literals
one_dash = refl

twice : faults (codes "--bail" ∷ codes "-bail" ∷ []) ≡ kind.ArgumentConflict ∷ []
unfolding clap_on_literals
twice = refl
