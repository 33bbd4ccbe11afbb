-- Meaning. What a run of a session does: the turns of its input one after the other, or of a front of it where the run is cut short (own
-- choice).
use Rattle.std.specs.Prelude.{ℕ, ◌≡◌, ◌⊎◌, ◌<◌, ◌≤◌, ◌-◌, ◌^◌, min, true, List, ◌++◌, length, take, Option}
use Rattle.std.specs.Io.KnownBytes.{Appends, Consumes, IsAtEnd}
use Rattle.sqlite.specs.Store.{Ghosts}
use Rattle.shell_text.specs.Units.{Member, ended_members}
use Rattle.shell_io.specs.declared.run.Status.{Status}
use Rattle.shell_io.specs.declared.run.RunFault.{RunFault}
use Rattle.shell_io.specs.declared.run.RunFault.TheVariants as causes
use Rattle.ft_shell.specs.Shell.{Shell}
use Rattle.ft_shell.specs.Effects.{Effects}
use Rattle.ft_shell.specs.Turns.{Turns, Session, Begins}
use Rattle.ft_shell.specs.Broken.{Broken}

-- a shell with the bytes that its reader has left and those that its two writers hold, where they are known
pub record Console (P S : Type 0) : Type 0 where
  pub shell : Shell P S
  pub input : Option (List ℕ)
  pub out : Option (List ℕ)
  pub err : Option (List ℕ)

-- such a console, of its four parts
abbrev pub console_of : {P S : Type 0} → Shell P S → Option (List ℕ) → Option (List ℕ) → Option (List ℕ) → Console P S
console_of shell input out err = record { shell = shell; input = input; out = out; err = err }

module _ {P S : Type 0} (g : Ghosts P) (h : Ghosts S) where
  -- The input of which these bytes were read was run whole: there is no more of it, and it isn't too much; or a turn ended the session that
  -- isn't past 2 ^ 30 bytes, whatever more there is.
  abbrev pub IsWhole : Option (List ℕ) → List ℕ → Shell P S → Shell P S → Effects → Type 0
  IsWhole left read old new all = (IsAtEnd left × (length read ≤ 2 ^ 30) × Session g h read old new all)
      ⊎ ((all.ends ≡ true) × ((rest : List ℕ) → Session g h (take (2 ^ 30) read ++ rest) old new all))

  -- A front of the turns of the input of which these bytes were read was done, before these members: there is no more of it, or whatever
  -- more there is.
  abbrev pub IsFront : Option (List ℕ) → List ℕ → Shell P S → Shell P S → Effects → List Member → Type 0
  IsFront left read old new all next = (IsAtEnd left × Begins g h read old new all next) ⊎ ((rest : List ℕ) → Begins g h (read ++ rest) old new all next)

  -- just the turns of the lines that ended in these bytes were done
  abbrev pub EndedDone : List ℕ → Shell P S → Shell P S → Effects → Type 0
  EndedDone read old new all = Turns g h (ended_members read) old new all

  -- The input was run whole, and all that its turns have to say was written. The count of fault lines stays at 2 ^ 64 - 1 once there.
  pub record Completes (status : Status) (old new : Console P S) : Type 0 where
    pub read : List ℕ
    pub consumed : Consumes old.input new.input read
    pub effects : Effects
    pub turns : IsWhole new.input read old.shell new.shell effects
    pub out : Appends old.out new.out effects.out
    pub err : Appends old.err new.err effects.err
    pub faults : status.faults ≡ min effects.faults (2 ^ 64 - 1)
    pub quit : status.quit ≡ effects.ends

  -- A front of the input's turns was done and written whole, and then the run was cut short. Where no more could be read, all turns of the
  -- lines that had ended were done. An input is too much only past 2 ^ 30 bytes, past which no more is read: then all turns of the lines
  -- that end in these were done, and nothing hangs on what is past them.
  pub record Stops (fault : RunFault) (old new : Console P S) : Type 0 where
    pub read : List ℕ
    pub consumed : Consumes old.input new.input read
    pub whole : Effects
    pub mid : Shell P S
    pub mid_out : Option (List ℕ)
    pub mid_err : Option (List ℕ)
    pub next : List Member
    pub turns : IsFront new.input read old.shell mid whole next
    pub out : Appends old.out mid_out whole.out
    pub err : Appends old.err mid_err whole.err
    pub effects : Effects
    pub broken : Broken g h fault whole mid new.shell mid_out new.out mid_err new.err next effects
    pub much : fault ≡ causes.TooMuch → (2 ^ 30 < length read) × EndedDone (take (2 ^ 30) read) old.shell mid whole
        × ((rest : List ℕ) → Begins g h (take (2 ^ 30) read ++ rest) old.shell mid whole next)
    pub unread : fault ≡ causes.Read → (length read ≤ 2 ^ 30) × EndedDone read old.shell mid whole
