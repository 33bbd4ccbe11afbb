-- Meaning. The inputs of a command line, run in turn over two databases, and what is said of how that ends (own choice).
use Rattle.std.specs.Prelude.{ℕ, ◌≡◌, ◌^◌, ◌-◌, ◌++◌, ◌==◌, min, if◌then◌else◌, MatchBool, MatchResult, List, [], ◌∷◌, map}
use Rattle.std.specs.Prelude.{codes, Option, Some, None, Result, Ok, Err}
use Rattle.std.specs.Io.KnownBytes.{Consumes}
use Rattle.sqlite.specs.Store.{Ghosts}
use Rattle.sqlite.specs.Held.{Held}
use Rattle.shell_text.specs.Print.{Settings}
use Rattle.ft_store.specs.Kept.{StoreState, value_in}
use Rattle.ft_calls.specs.Kept.{FullText, Holds, StoreHolds}
use Rattle.ft_calls.specs.Kept.{SurvivesCrash}
use Rattle.ft_index.specs.Opened.{OpensStore}
use Rattle.ft_content.specs.Step.{Contents}
use Rattle.std.specs.Fmt.{signed_decimal}
use Rattle.shell_io.specs.declared.run.Outputs.{Outputs as RustOutputs}
use Rattle.shell_io.specs.declared.run.Status.{Status}
use Rattle.shell_io.specs.declared.run.RunFault.{RunFault}
use Rattle.shell_io.specs.declared.run.RunFault.TheVariants as causes
use Rattle.ft_shell.specs.Shell.{Parts, shell_with}
use Rattle.ft_shell.specs.Effects.{Effects, idle, and_then}
use Rattle.ft_shell.specs.Runs.{Console}
use Rattle.ft_shell.specs.Promise.{IsClean, Ran, AllRan, PromiseKept}
use Rattle.shell_io.specs.Writing.{AppendsUpTo}
use Rattle.ft_files.specs.declared.databases.OpenFault.{OpenFault}
use Rattle.ft_files.specs.declared.databases.OpenFault.TheVariants as opening
use Rattle.ft_files.specs.Reading.{unknown_files}

-- ---- inputs

-- the texts of the command line, or else the standard input, as far as their bytes are known
abbrev pub due : List (List ℕ) → Option (List ℕ) → List (Option (List ℕ))
due [] standard = standard ∷ []
due (text ∷ texts) standard = map Some (text ∷ texts)

-- the standard input isn't touched where texts are given
abbrev pub Spares : {X : Type 0} → List (List ℕ) → X → X → Type 0
Spares [] before after = Unit {0}
Spares (text ∷ texts) before after = after ≡ before

-- what the two writers hold where that is known
pub record Outputs : Type 0 where
  pub out : Option (List ℕ)
  pub err : Option (List ℕ)

-- those of the outputs of a run, whose writers hold what these functions read
abbrev pub outputs_of : {O E : Type 0} → (O → Option (List ℕ)) → (E → Option (List ℕ)) → RustOutputs O E → Outputs
outputs_of out_of err_of outputs = record { out = out_of outputs.out.now; err = err_of outputs.err.now }

-- a session between two inputs
pub record Stage (P S : Type 0) : Type 0 where
  pub parts : Parts P S
  pub on : Outputs

-- such a stage, of its parts and the outputs of a run
abbrev pub stage_of : {P S O E : Type 0} → (O → Option (List ℕ)) → (E → Option (List ℕ)) → Parts P S → RustOutputs O E → Stage P S
stage_of out_of err_of parts outputs = record { parts = parts; on = outputs_of out_of err_of outputs }

-- as a run has it, with what is left of its input
abbrev pub console : {P S : Type 0} → Stage P S → Option (List ℕ) → Console P S
console stage input = record { shell = shell_with stage.parts unknown_files; input = input; out = stage.on.out; err = stage.on.err }

module _ {P S : Type 0} (g : Ghosts P) (h : Ghosts S) where
  -- one input is run
  abbrev pub RunsOne : Option (List ℕ) → Result Status RunFault → Stage P S → Stage P S → Effects → Type 0
  RunsOne input ended old new own = (left : Option (List ℕ)) × Ran g h ended (console old input) (console new left) own

  -- Inputs are run in turn, each from what the one before it left, with what all their turns wrote and called. A quit ends it, and so does
  -- a fault of a run.
  abbrev pub InTurn : List (Option (List ℕ)) → Option RunFault → Stage P S → Stage P S → Effects → Type 0
  InTurn [] cause old new all = (cause ≡ None) × (new ≡ old) × (all ≡ idle)
  InTurn (input ∷ inputs) cause old new all = (ended : Result Status RunFault) × (mid : Stage P S) × (own : Effects) × RunsOne input ended old mid own
      × MatchResult ended
      (λ status. MatchBool own.ends ((cause ≡ None) × (new ≡ mid) × (all ≡ own)) ((rest : Effects) × InTurn inputs cause mid new rest
      × (all ≡ and_then own rest)))
      (λ fault. (cause ≡ Some fault) × (new ≡ mid) × (all ≡ own))

-- What runs read of inputs: each of the first of these inputs, where its bytes are known, begins with what was read of it.
abbrev pub AreRead : List (Option (List ℕ)) → List (List ℕ) → Type 0
AreRead inputs [] = Unit {0}
AreRead [] (read ∷ reads) = ⊥
AreRead (input ∷ inputs) (read ∷ reads) = (left : Option (List ℕ)) × Consumes input left read × AreRead inputs reads

-- ---- the end

-- what is answered of inputs that were run: their fault lines are counted together, up to 2 ^ 64 - 1
abbrev pub EndsAs : Result Status RunFault → Option RunFault → Effects → Type 0
EndsAs (Ok status) cause all = (cause ≡ None) × (status.faults ≡ min all.faults (2 ^ 64 - 1)) × (status.quit ≡ all.ends)
EndsAs (Err fault) cause all = cause ≡ Some fault

abbrev pub RunsInTurn : {P S : Type 0} → Ghosts P → Ghosts S → List (Option (List ℕ)) → Result Status RunFault → Stage P S → Stage P S → Type 0
RunsInTurn g h inputs ended old new = (cause : Option RunFault) × (all : Effects) × InTurn g h inputs cause old new all × EndsAs ended cause all

-- They are runs one after another: so what any runs leave of the full-text tables is left by them, too.
abbrev pub RunsAndKeeps : {P S : Type 0} → Ghosts P → Ghosts S → List (Option (List ℕ)) → Result Status RunFault → Stage P S → Stage P S → Type 0
RunsAndKeeps g h inputs ended old new = (cause : Option RunFault) × (all : Effects) × InTurn g h inputs cause old new all × EndsAs ended cause all
    × (reads : List (List ℕ)) × AreRead inputs reads × AllRan g h old.parts reads all new.parts
    × ((first : Contents) → Holds h old.parts.full_text first → SurvivesCrash h old.parts.full_text → IsClean h new.parts.full_text
    → PromiseKept g h first old.parts reads all new.parts)

-- the program's own line for a fault that ended a run
abbrev pub own_line : RunFault → List ℕ
own_line causes.Read = codes "Error: input fault" ++ 10 ∷ []
own_line causes.Write = codes "Error: output fault" ++ 10 ∷ []
own_line causes.TooMuch = codes "Error: input too large" ++ 10 ∷ []
own_line causes.Memory = codes "Error: out of memory" ++ 10 ∷ []

-- it is written after all else, or as much of it as goes out
abbrev pub WritesOwn : Option RunFault → Option (List ℕ) → Option (List ℕ) → Type 0
WritesOwn None old new = new ≡ old
WritesOwn (Some fault) old new = AppendsUpTo old new (own_line fault)

-- the program's status is 0 where no fault line was written and no run ended early, and else 1
abbrev pub exit_status : Option RunFault → Effects → ℕ
exit_status None all = if all.faults == 0 then 0 else 1
exit_status (Some fault) all = 1

-- the same of what was answered
abbrev pub Closes : Result Status RunFault → Option (List ℕ) → Option (List ℕ) → ℕ → Type 0
Closes (Ok status) old new n = (new ≡ old) × (n ≡ (if status.faults == 0 then 0 else 1))
Closes (Err fault) old new n = AppendsUpTo old new (own_line fault) × (n ≡ 1)

-- the line for a database that is not opened
abbrev pub opening_line : OpenFault → List ℕ
opening_line opening.Database = codes "Error: unable to open database" ++ 10 ∷ []
opening_line opening.NotAStore = codes "Error: not a full-text store" ++ 10 ∷ []
opening_line (opening.Version n) = codes "Error: full-text store of version " ++ (signed_decimal n ++ 10 ∷ [])
opening_line opening.Store = codes "Error: unable to open full-text store" ++ 10 ∷ []

-- a database is not opened: one line says why, and there is nothing else
pub record NotOpened (why : OpenFault) (old new : Outputs) (status : ℕ) : Type 0 where
  pub out : new.out ≡ old.out
  pub err : AppendsUpTo old.err new.err (opening_line why)
  pub ends : status ≡ 1

module _ {P S : Type 0} (g : Ghosts P) (h : Ghosts S) where
  -- The inputs are run in turn from plain tables and a full-text store as it is taken, and then the program's own line is written. They are
  -- runs one after another: of whatever contents the store held the promise is kept, where the disk returned what was written.
  pub record RunsOver (settings : Settings) (plain : Held P) (store : StoreState S) (inputs : List (Option (List ℕ))) (old new : Outputs)
      (status : ℕ) : Type 0 where
    pub made : FullText S
    pub opened : OpensStore h store made
    pub cause : Option RunFault
    pub last : Stage P S
    pub all : Effects
    pub turns : InTurn g h inputs cause (record { parts = record { settings = settings; plain = plain; full_text = made }; on = old }) last all
    pub out : new.out ≡ last.on.out
    pub err : WritesOwn cause last.on.err new.err
    pub ends : status ≡ exit_status cause all
    pub reads : List (List ℕ)
    pub read : AreRead inputs reads
    pub ran : AllRan g h (record { settings = settings; plain = plain; full_text = made }) reads all last.parts
    pub kept : (first : Contents) → StoreHolds (value_in h store) first → IsClean h last.parts.full_text
        → PromiseKept g h first (record { settings = settings; plain = plain; full_text = made }) reads all last.parts
