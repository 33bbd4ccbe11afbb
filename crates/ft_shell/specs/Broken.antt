-- Meaning. Where a run is cut short (own choice).
use Rattle.std.specs.Prelude.{ℕ, ◌≡◌, false, List, [], ◌∷◌, ◌++◌, Option}
use Rattle.std.specs.Io.KnownBytes.{Appends}
use Rattle.sqlite.specs.Store.{Ghosts}
use Rattle.shell_text.specs.Units.{Member}
use Rattle.shell_io.specs.declared.run.RunFault.{RunFault}
use Rattle.shell_io.specs.declared.run.RunFault.TheVariants as causes
use Rattle.ft_shell.specs.Shell.{Shell}
use Rattle.ft_shell.specs.Effects.{Effects, and_then}
use Rattle.ft_shell.specs.Turns.{Turn, echo_of}
use Rattle.shell_io.specs.Writing.{AppendsUpTo}

-- Some turns were done, and all that they have to say was written; then a run is cut short, with this member next. It gives what was done
-- in all. Only a refused write stops within a turn: the echo of a unit comes first, and where it is refused the unit is not run.
pub data Broken {P S : Type 0} (g : Ghosts P) (h : Ghosts S) (fault : RunFault) (whole : Effects) (old new : Shell P S)
    (out out' err err' : Option (List ℕ)) : List Member → Effects → Type 0 where
  not_begun : new ≡ old → out' ≡ out → err' ≡ err → Broken g h fault whole old new out out' err err' [] whole
  not_echoed : (member : Member) → whole.ends ≡ false → fault ≡ causes.Write → new ≡ old
      → AppendsUpTo out out' (echo_of old.settings member) → err' ≡ err → Broken g h fault whole old new out out' err err' (member ∷ []) whole
  not_told : (member : Member) (own : Effects) (front rest : List ℕ) → whole.ends ≡ false → fault ≡ causes.Write → Turn g h member old new own
      → own.out ≡ echo_of old.settings member ++ (front ++ rest) → Appends out out' (echo_of old.settings member ++ front) → AppendsUpTo err err' own.err
      → Broken g h fault whole old new out out' err err' (member ∷ []) (and_then whole own)
