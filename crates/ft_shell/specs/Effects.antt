-- Meaning. What turns of a session write, and which calls they make of the full-text tables (own choice).
use Rattle.std.specs.Prelude.{ℕ, Bool, false, List, [], ◌++◌, ◌+◌}
use Rattle.ft_calls.specs.Kept.{Call}
use Rattle.shell_io.specs.Outcomes.{Outcome}

-- what one or more turns write, and the calls that they make of the full-text tables
pub record Effects : Type 0 where
  pub out : List ℕ
  pub err : List ℕ
  pub faults : ℕ
  pub ends : Bool
  pub calls : List Call

abbrev pub idle : Effects
idle = record { out = []; err = []; faults = 0; ends = false; calls = [] }

abbrev pub outcome_in : Effects → Outcome
outcome_in all = record { out = all.out; err = all.err; faults = all.faults; ends = all.ends }

abbrev pub effects_of : Outcome → List Call → Effects
effects_of told calls = record { out = told.out; err = told.err; faults = told.faults; ends = told.ends; calls = calls }

-- what turns do, and then what the turns after them do
abbrev pub and_then : Effects → Effects → Effects
and_then first rest = record {
  out = first.out ++ rest.out;
  err = first.err ++ rest.err;
  faults = first.faults + rest.faults;
  ends = rest.ends;
  calls = first.calls ++ rest.calls;
}
