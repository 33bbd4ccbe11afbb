-- Meaning. What runs of a session leave of the full-text tables (own choice).
use Rattle.std.specs.Prelude.{ℕ, ℤ, ◌≡◌, ◌⊎◌, List, [], ◌∷◌, ◌++◌, Option, Result, Ok, Err, IsTrue}
use Rattle.std.specs.List.{list_any}
use Rattle.sqlite.specs.Store.{Ghosts}
use Rattle.shell_text.specs.Units.{Member, Sql, members_of}
use Rattle.ft_store.specs.Kept.{shows}
use Rattle.ft_commands.specs.Command.{Command, Filter, Items, Reply, Select}
use Rattle.ft_content.specs.Step.{Contents}
use Rattle.ft_content.specs.Step.{reply_to}
use Rattle.sqlite.specs.State.{HasCleanDisk}
use Rattle.ft_calls.specs.Kept.{FullText, Holds}
use Rattle.ft_calls.specs.Kept.{Call, CallsKept, Executed, Runs, SurvivesCrash, accepted, left_by, is_unsound}
use Rattle.ft_calls.specs.Causes.{DoesForCause}
use Rattle.shell_io.specs.declared.run.Status.{Status}
use Rattle.shell_io.specs.declared.run.RunFault.{RunFault}
use Rattle.ft_shell.specs.Shell.{Parts, Shell}
use Rattle.ft_statements.specs.Replies.{reply_text}
use Rattle.ft_shell.specs.Effects.{Effects, idle, and_then, outcome_in}
use Rattle.shell_io.specs.Outcomes.{says, echoed, lacks_memory, outcome_of}
use Rattle.ft_shell.specs.Turns.{Turn, Turns}
use Rattle.ft_shell.specs.Runs.{Console, Completes, Stops}

-- ---- runs

abbrev pub shell_parts : {P S : Type 0} → Shell P S → Parts P S
shell_parts shell = record { settings = shell.settings; plain = shell.plain; full_text = shell.full_text }

module _ {P S : Type 0} (g : Ghosts P) (h : Ghosts S) where
  -- A run, however it ended, with what its turns wrote and the calls that they made of the full-text tables.
  abbrev pub Ran : Result Status RunFault → Console P S → Console P S → Effects → Type 0
  Ran (Ok status) old new all = (it : Completes g h status old new) × (all ≡ it.effects)
  Ran (Err fault) old new all = (it : Stops g h fault old new) × (all ≡ it.effects)

  -- what a run read of its input
  abbrev pub read_by : (ended : Result Status RunFault) (old new : Console P S) (all : Effects) → Ran ended old new all → List ℕ
  read_by (Ok status) old new all ran = ran.0.read
  read_by (Err fault) old new all ran = ran.0.read

  -- Any runs one after another, or none, with what each read of its input, and what all their turns wrote and called. Each has an input,
  -- writers and files of its own, and begins with what the one before it left.
  pub data AllRan : Parts P S → List (List ℕ) → Effects → Parts P S → Type 0 where
    none_ran : (parts : Parts P S) → AllRan parts [] idle parts
    last_ran : (ended : Result Status RunFault) (old new : Console P S) (all : Effects) (ran : Ran ended old new all)
        → AllRan (shell_parts old.shell) (read_by ended old new all ran ∷ []) all (shell_parts new.shell)
    first_ran : (ended : Result Status RunFault) (old new : Console P S) (all : Effects) (reads : List (List ℕ)) (rest : Effects) (last : Parts P S)
        (ran : Ran ended old new all) → AllRan (shell_parts new.shell) reads rest last
        → AllRan (shell_parts old.shell) (read_by ended old new all ran ∷ reads) (and_then all rest) last

  -- Turns from the first of runs up to one of their shells, before a member: all those of some runs, and then those of the members before
  -- it in what the next run read.
  pub record Reached (old : Parts P S) (reads : List (List ℕ)) (earlier : Effects) (was : Shell P S) (next : Member) : Type 0 where
    pub before : List (List ℕ)
    pub whole : Effects
    pub start : Shell P S
    pub ran : AllRan old before whole (shell_parts start)
    pub read : List ℕ
    pub more : List (List ℕ)
    pub inputs : reads ≡ before ++ read ∷ more
    pub members : List Member
    pub rest : List Member
    pub stands : members_of read ≡ members ++ next ∷ rest
    pub part : Effects
    pub turns : Turns g h members start was part
    pub both : earlier ≡ and_then whole part

-- so far the disk returned what was written, as it always does in memory
abbrev pub IsClean : {S : Type 0} → Ghosts S → FullText S → Type 0
IsClean h known = HasCleanDisk (shows h known.store)

-- of a store in memory nothing is supposed
abbrev pub IsAny : {S : Type 0} → FullText S → Type 0
IsAny known = Unit {0}

-- ---- the promise

module _ {P S : Type 0} (g : Ghosts P) (h : Ghosts S) where
  -- The turn of a Select among all calls, of which it is the one of its turn. What it writes is the reply by the settings that are in force
  -- there, or that it lacks memory for it, and stands on both outputs between what the turns before it and those after it write.
  pub record Lists (old : Parts P S) (reads : List (List ℕ)) (all : Effects) (before : List Call) (select : Command) (reply : Reply) (more : List Call)
      (new : Parts P S) : Type 0 where
    pub line : ℕ
    pub text : List ℕ
    pub was : Shell P S
    pub now : Shell P S
    pub earlier : Effects
    pub own : Effects
    pub later : Effects
    pub reached : Reached g h old reads earlier was (Sql line text)
    pub calls_before : earlier.calls ≡ before
    pub turn : Turn g h (Sql line text) was now own
    pub one_call : own.calls ≡ Executed select (Ok reply) ∷ []
    pub calls_behind : later.calls ≡ more
    pub goes_on : Runs (DoesForCause h) now.full_text more new.full_text
    pub prints : (outcome_in own ≡ echoed was.settings text (outcome_of was.settings.bail line (says (reply_text was.settings reply))))
        ⊎ (outcome_in own ≡ echoed was.settings text (outcome_of was.settings.bail line lacks_memory))
    pub out : all.out ≡ earlier.out ++ (own.out ++ later.out)
    pub err : all.err ≡ earlier.err ++ (own.err ++ later.err)

  -- What runs that read these inputs leave of full-text tables that held these contents before them.
  pub record PromiseKept (first : Contents) (old : Parts P S) (reads : List (List ℕ)) (all : Effects) (new : Parts P S) : Type 0 where
    -- Behind each call that is answered each table's content is that of the accepted commands, and the index rows of each sound table are
    -- exactly those made from scratch. A refused command changes nothing, and so does a crash but for the command that was running. The
    -- store refuses one only for what lies outside it, or since the rows that it comes to can't be put.
    pub calls : CallsKept h (DoesForCause h) first old.full_text all.calls new.full_text
    -- no table becomes unsound
    pub sound : (id : ℤ) → IsTrue (list_any (is_unsound id) (left_by first (accepted all.calls))) → IsTrue (list_any (is_unsound id) first)
    -- each Select that is accepted, with MATCH too, lists the reply that is defined over what the accepted commands before it left
    pub lists : (before more : List Call) (table : List ℕ) (items : Items) (filter : Filter) (limit : Option ℕ) (offset : ℕ) (reply : Reply)
        → all.calls ≡ before ++ Executed (Select table items filter limit offset) (Ok reply) ∷ more →
        (reply ≡ reply_to (left_by first (accepted before)) (Select table items filter limit offset))
        × Lists old reads all before (Select table items filter limit offset) reply more new

  -- After any runs the full-text tables are what the accepted commands make of them, where the disk returned what was written.
  abbrev pub KeptByRuns : (FullText S → Type 0) → Type 0
  KeptByRuns IsClean = (first : Contents) (old new : Parts P S) (reads : List (List ℕ)) (all : Effects) → Holds h old.full_text first
      → SurvivesCrash h old.full_text → AllRan g h old reads all new → IsClean new.full_text → PromiseKept first old reads all new

  -- So it is after one run.
  abbrev pub RanAndKept : Result Status RunFault → Console P S → Console P S → Type 0
  RanAndKept ended old new = (all : Effects) × (ran : Ran g h ended old new all)
      × ((first : Contents) → Holds h old.shell.full_text first → IsClean h new.shell.full_text
      → PromiseKept first (shell_parts old.shell) (read_by g h ended old new all ran ∷ []) all (shell_parts new.shell))
