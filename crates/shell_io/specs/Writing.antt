-- Meaning. What is written to a writer that may refuse (own choice).
use Rattle.std.specs.Prelude.{ℕ, ◌≡◌, ◌+◌, ◌-◌, ◌^◌, min, ◌||◌, List, ◌++◌, Option, Result, Ok, Err, IfErr, OnOk}
use Rattle.std.specs.Io.KnownBytes.{Appends}
use Rattle.shell_io.specs.declared.run.Outputs.{Outputs}
use Rattle.shell_io.specs.declared.run.RunFault.{RunFault}
use Rattle.shell_io.specs.declared.run.RunFault.TheVariants as causes
use Rattle.shell_io.specs.Outcomes.{Outcome}

-- a front of a text was added to what the writer holds, where that is known
abbrev pub AppendsUpTo : Option (List ℕ) → Option (List ℕ) → List ℕ → Type 0
AppendsUpTo old new text = (front : List ℕ) × (rest : List ℕ) × (text ≡ front ++ rest) × Appends old new front

-- a text was written whole, or a front of it where the writer refused
abbrev pub Sends : {T E : Type 0} → Result T E → Option (List ℕ) → Option (List ℕ) → List ℕ → Type 0
Sends (Ok _) old new text = Appends old new text
Sends (Err _) old new text = AppendsUpTo old new text

-- both writers are those that they were
abbrev pub SameWriters : {O E : Type 0} → Outputs O E → Outputs O E → Type 0
SameWriters old new = (new.out.ghost_name ≡ old.out.ghost_name) × (new.err.ghost_name ≡ old.err.ghost_name)

-- An outcome was written on both outputs and counted, or a front of it was written where a writer refused. What the writers hold is read by
-- the first two functions. The count of fault lines stays at 2 ^ 64 - 1 once there.
pub record WritesOutcome {T O E : Type 0} (out_of : O → Option (List ℕ)) (err_of : E → Option (List ℕ)) (result : Result T RunFault) (old new : Outputs O E)
    (told : Outcome) : Type 0 where
  pub out : Sends result (out_of old.out.now) (out_of new.out.now) told.out
  pub err : Sends result (err_of old.err.now) (err_of new.err.now) told.err
  pub fault : IfErr result (λ fault. fault ≡ causes.Write)
  pub faults : OnOk result (new.status.faults ≡ min (old.status.faults + told.faults) (2 ^ 64 - 1))
  pub quit : OnOk result (new.status.quit ≡ (old.status.quit || told.ends))
