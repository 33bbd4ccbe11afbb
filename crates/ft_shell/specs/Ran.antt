-- Steps. What a session does with members of its input, and what is written for them (own choice).
use Rattle.std.specs.Prelude.{ℕ, ◌≡◌, ◌⊎◌, ◌<◌, false, ◌+◌, ◌-◌, ◌^◌, min, ◌||◌, List, [], ◌++◌, length, take, Option, Result, Ok, Err}
use Rattle.std.specs.Io.KnownBytes.{Appends}
use Rattle.sqlite.specs.Store.{Ghosts}
use Rattle.shell_text.specs.Units.{Member}
use Rattle.shell_io.specs.declared.run.Outputs.{Outputs}
use Rattle.shell_io.specs.declared.run.Status.{Status}
use Rattle.shell_io.specs.declared.run.RunFault.{RunFault}
use Rattle.shell_io.specs.declared.run.RunFault.TheVariants as causes
use Rattle.ft_shell.specs.Shell.{Shell}
use Rattle.ft_shell.specs.Effects.{Effects}
use Rattle.ft_shell.specs.Turns.{Turns}
use Rattle.ft_shell.specs.Broken.{Broken}
use Rattle.ft_shell.specs.Runs.{Console, Completes, Stops}
use Rattle.shell_io.specs.LinesRead.{HasNoEnd, LinesRead, Way, at_end, behind, members_left}

-- a shell with the status of its run, and what the two writers hold where that is known
pub record Moment (P S : Type 0) : Type 0 where
  pub shell : Shell P S
  pub status : Status
  pub out : Option (List ℕ)
  pub err : Option (List ℕ)

-- such a moment, of a shell and the outputs of its run, whose writers hold what these functions read
abbrev pub moment : {P S O E : Type 0} → (O → Option (List ℕ)) → (E → Option (List ℕ)) → Shell P S → Outputs O E → Moment P S
moment out_of err_of shell outputs = record { shell = shell; status = outputs.status; out = out_of outputs.out.now; err = err_of outputs.err.now }

-- no unit waits where the session goes on
abbrev pub NoneWaits : Status → LinesRead → Type 0
NoneWaits status read = status.quit ≡ false → read.splitting.waiting ≡ []

-- no line ended in what waits where the session goes on
abbrev pub IsWithinLine : Status → LinesRead → Type 0
IsWithinLine status read = status.quit ≡ false → HasNoEnd read.line

-- the session goes on, and no unit waits
abbrev pub GoesOn : Status → LinesRead → Type 0
GoesOn status read = (status.quit ≡ false) × (read.splitting.waiting ≡ [])

module _ {P S : Type 0} (g : Ghosts P) (h : Ghosts S) where
  -- The members' turns were done one after the other, and what they have to say was written and counted. The count of fault lines stays at
  -- 2 ^ 64 - 1 once there.
  pub record Did (members : List Member) (old new : Moment P S) : Type 0 where
    pub effects : Effects
    pub turns : Turns g h members old.shell new.shell effects
    pub out : Appends old.out new.out effects.out
    pub err : Appends old.err new.err effects.err
    pub faults : min new.status.faults (2 ^ 64 - 1) ≡ min (old.status.faults + effects.faults) (2 ^ 64 - 1)
    pub quit : new.status.quit ≡ (old.status.quit || effects.ends)

  -- The members' turns were done and written whole, and then what they are part of was cut short, before these.
  pub record Cut (fault : RunFault) (members next : List Member) (old new : Moment P S) : Type 0 where
    pub mid : Moment P S
    pub did : Did members old mid
    pub effects : Effects
    pub broken : Broken g h fault did.effects mid.shell new.shell mid.out new.out mid.err new.err next effects

  -- Of the members that are due, however the input goes on, a front was done. Where the session goes on, the others are left.
  pub record Passes {W : Type 0} (due left : W → List Member) (old new : Moment P S) : Type 0 where
    pub done : List Member
    pub front : (way : W) → (more : List Member) × (due way ≡ done ++ more) × (new.status.quit ≡ false → more ≡ left way)
    pub did : Did done old new

  -- Of the members that are due, however the input goes on, a front was done, up to a fault.
  pub record Breaks {W : Type 0} (fault : RunFault) (due : W → List Member) (old new : Moment P S) : Type 0 where
    pub done : List Member
    pub next : List Member
    pub front : (way : W) → (more : List Member) × (due way ≡ done ++ (next ++ more))
    pub cut : Cut fault done next old new

  -- what cuts short what is done with bytes that were read
  abbrev pub IsInside : RunFault → Type 0
  IsInside fault = (fault ≡ causes.Write) ⊎ (fault ≡ causes.Memory)

  -- what a part of a run does
  abbrev pub Runs : {W T : Type 0} → Result T RunFault → (W → List Member) → (W → List Member) → Moment P S → Moment P S → Type 0
  Runs (Ok _) due left old new = Passes due left old new
  Runs (Err fault) due left old new = Breaks fault due old new × IsInside fault

  -- The bytes that were read are taken, as far as there is room. Without any the input is at its end, and what is left of it is done.
  pub record TakesRead {T : Type 0} (result : Result T RunFault) (room : ℕ) (bytes : List ℕ) (read left : LinesRead) (old new : Moment P S) : Type 0 where
    pub goes : 0 < length bytes → Runs result (λ (way : Way). members_left read (behind (take room bytes) way)) (members_left left) old new
    pub ends : length bytes ≡ 0 → Runs result (λ (_ : Unit {0}). members_left read at_end) (λ _. []) old new

  -- a run, however it ended
  abbrev pub Ends : Result Status RunFault → Console P S → Console P S → Type 0
  Ends (Ok status) old new = Completes g h status old new
  Ends (Err fault) old new = Stops g h fault old new
