-- The program's status is 0, 1 or 2.
use Rattle.std.proofs.Common.{◌≡◌, ◌≤◌, ℕ, Bool, true, false, List, Option, Some, None, String, Global, inl, inr, arith}
use Rattle.std.specs.Prelude.{if◌then◌else◌, ◌==◌}
use Rattle.sqlite_disk.specs.declared.Disk as disk
use Rattle.sqlite.specs.Held.{Held}
use Rattle.sqlite.specs.Store.{Ghosts}
use Rattle.shell_text.specs.Print.{Settings}
use Rattle.ft_store.specs.Kept.{StoreState}
use Rattle.ft_line.specs.declared.line.LineFault.{LineFault}
use Rattle.ft_line.specs.declared.line.LineFault.TheVariants as lines
use Rattle.shell_io.specs.declared.run.RunFault.{RunFault}
use Rattle.ft_shell.specs.Effects.{Effects}
use Rattle.ft_files.specs.Hosts.{Names}
use Rattle.ft_program.specs.Closed.{RunsBoth, TellsClose}
use Rattle.ft_program.specs.InFiles.{RunsInFiles}
use Rattle.ft_program.specs.Inputs.{Outputs, exit_status}
use Rattle.ft_program.specs.Memory.{RefusesLine, RunsIn, RunsInMemory, Starts}

of_test : (b : Bool) (status : ℕ) → status ≡ (if b then 0 else 1) → status ≤ 2
of_test true status is = omega (arith, is)
of_test false status is = omega (arith, is)

of_exit : (cause : Option RunFault) (all : Effects) (status : ℕ) → status ≡ exit_status cause all → status ≤ 2
of_exit None all status is = of_test (all.faults == 0) status is
of_exit (Some fault) all status is = omega (arith, is)

of_both : {P S : Type 0} (g : Ghosts P) (h : Ghosts S) (settings : Settings) (plain : Held P) (store : StoreState S) (inputs : List (Option (List ℕ))) (plain_after : Held P) (after : StoreState S) (old new : Outputs) (status : ℕ) →
    RunsBoth g h settings plain store inputs plain_after after old new status → status ≤ 2
of_both g h settings plain store inputs plain_after after old new status (inl unread) = omega (arith, unread.told.ends)
of_both g h settings plain store inputs plain_after after old new status (inr (runs, held)) = of_exit runs.cause runs.all status runs.ends

of_close : (is_closed : Bool) (old new : Option (List ℕ)) (ended status : ℕ) → TellsClose is_closed old new ended status → ended ≤ 2 → status ≤ 2
of_close true old new ended status (same, is) within = omega (arith, is, within)
of_close false old new ended status (said, is) within = omega (arith, is)

of_memory : (settings : Settings) (inputs : List (Option (List ℕ))) (old new : Outputs) (status : ℕ) → RunsInMemory settings inputs old new status → status ≤ 2
of_memory settings inputs old new status (inl (why, cause, told)) = omega (arith, told.ends)
of_memory settings inputs old new status (inr it) = of_exit it.runs.cause it.runs.all status it.runs.ends

module _ {D : Type 0} (g : disk.Ghosts D) (tells : Bool) (held left : Names) where
  of_files : (path : List ℕ) (settings : Settings) (inputs : List (Option (List ℕ))) (old new : Outputs) (status : ℕ) → RunsInFiles g tells path held left settings inputs old new status → status ≤ 2
  of_files path settings inputs old new status ((others, inl refused), long) = omega (arith, refused.told.ends)
  of_files path settings inputs old new status ((others, inr it), long) = of_close _ _ _ _ status it.runs.told (of_both _ _ _ _ _ _ _ _ _ _ _ it.runs.runs.runs)

  of_line : (file : Option (String Global)) (settings : Settings) (inputs : List (Option (List ℕ))) (old new : Outputs) (status : ℕ) → RunsIn g tells held left file settings inputs old new status → status ≤ 2
  of_line None settings inputs old new status (stay, runs) = of_memory settings inputs old new status runs
  of_line (Some path) settings inputs old new status runs = of_files _ settings inputs old new status runs

of_words : (why : LineFault) (old new : Outputs) (status : ℕ) → RefusesLine why old new status → status ≤ 2
of_words (lines.Words e) old new status (inl (asked, is, same)) = omega (arith, is)
of_words (lines.Words e) old new status (inr (asked, is, same)) = omega (arith, is)
of_words lines.Conflict old new status (is, same) = omega (arith, is)
of_words lines.BadSeparator old new status (is, same) = omega (arith, is)
of_words lines.Memory old new status (is, same) = omega (arith, is)

pub of_start : {D : Type 0} (g : disk.Ghosts D) (tells : Bool) (held left : Names) (words : List (List ℕ)) (standard : Option (List ℕ)) (old new : Outputs) (status : ℕ) → Starts g tells held left words standard old new status → status ≤ 2
of_start g tells held left words standard old new status (inl (why, reads, refuses, stay)) = of_words why old new status refuses
of_start g tells held left words standard old new status (inr (line, reads, runs)) = of_line g tells held left line.file _ _ old new status runs
