-- Meaning. What turns of a session write. The form of fault lines, and that a fault ends the session only where bail is on, are own choices
-- beside the section "Special commands to sqlite3" of "Command Line Shell For SQLite".
use Rattle.std.specs.Prelude.{ℕ, ◌≡◌, ◌⊎◌, Bool, true, false, if◌then◌else◌, List, [], ◌∷◌, ◌++◌, Option, Some, None, is_some, codes}
use Rattle.shell_text.specs.Print.{Settings}
use Rattle.shell_io.specs.Texts.{fault_line}

-- what one or more turns write on the two outputs, how many fault lines are among it, and whether the session ends there
pub record Outcome : Type 0 where
  pub out : List ℕ
  pub err : List ℕ
  pub faults : ℕ
  pub ends : Bool

-- what a turn answers: bytes for the output, warnings, the text of its fault line if it has one, and whether the session ends there
pub record Answer : Type 0 where
  pub out : List ℕ
  pub warnings : List ℕ
  pub fault : Option (List ℕ)
  pub ends : Bool

abbrev pub says : List ℕ → Answer
says bytes = record { out = bytes; warnings = []; fault = None; ends = false }

abbrev pub silent : Answer
silent = says []

-- lines on standard error that are no fault
abbrev pub warned : List ℕ → Answer
warned lines = record { out = []; warnings = lines; fault = None; ends = false }

-- the session ends there
abbrev pub quits : Answer
quits = record { out = []; warnings = []; fault = None; ends = true }

-- a fault, after warnings
abbrev pub complains : List ℕ → List ℕ → Answer
complains lines text = record { out = []; warnings = lines; fault = Some text; ends = false }

abbrev pub blames : List ℕ → Answer
blames text = complains [] text

-- nothing was done, or said of what was done, for want of memory
abbrev pub lacks_memory : Answer
lacks_memory = blames (codes "out of memory")

-- the answer is what is due, or else that memory is lacking
abbrev pub Tells : Answer → Answer → Type 0
Tells due answer = (answer ≡ due) ⊎ (answer ≡ lacks_memory)

-- the fault line of what begins on the line of this number, if there is a fault
abbrev pub fault_lines : ℕ → Option (List ℕ) → List ℕ
fault_lines line None = []
fault_lines line (Some text) = fault_line line text

abbrev pub fault_count : Option (List ℕ) → ℕ
fault_count None = 0
fault_count (Some text) = 1

-- What is written for an answer to what begins on the line of this number. Where bail is on, a fault ends the session.
abbrev pub outcome_of : Bool → ℕ → Answer → Outcome
outcome_of bail line answer = record {
  out = answer.out;
  err = answer.warnings ++ fault_lines line answer.fault;
  faults = fault_count answer.fault;
  ends = if is_some answer.fault then bail else answer.ends;
}

-- where echo is on, a unit's text and a line feed are written before the unit is run
abbrev pub echo_text : Bool → List ℕ → List ℕ
echo_text echo text = if echo then text ++ 10 ∷ [] else []

-- so they stand before its own output
abbrev pub echoed : Settings → List ℕ → Outcome → Outcome
echoed settings text told = record told { out = echo_text settings.echo text ++ told.out }
