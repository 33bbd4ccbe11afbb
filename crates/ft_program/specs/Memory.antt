-- Meaning. What the program does over two empty databases in memory, without a FILE, and so by its words (own choice).
use Rattle.std.specs.Prelude.{ℕ, Bool, true, false, IsTrue, ◌≡◌, ◌⊎◌, List, [], map, Option, Some, None, String, string_bytes, Ok, Err}
use Rattle.std.specs.declared.alloc.Global.{Global}
use Rattle.sqlite_disk.specs.declared.Disk as disk
use Rattle.sqlite_store.specs.declared.store.FileStore.{FileStore}
use Rattle.sqlite.specs.Files.{over_files}
use Rattle.sqlite.specs.Held.{Held}
use Rattle.ram_disk.specs.contracts.disk.RamDisk.TheImpl.{ghosts}
use Rattle.clap.specs.Values.{kind_of}
use Rattle.clap.specs.declared.error.Error.{Error}
use Rattle.clap.specs.declared.error.kind.ErrorKind.{ErrorKind}
use Rattle.clap.specs.declared.error.kind.ErrorKind.TheVariants as kind
use Rattle.shell_text.specs.Print.{Settings}
use Rattle.ft_store.specs.Kept.{StoreState}
use Rattle.ft_shell.specs.Promise.{PromiseKept}
use Rattle.ft_line.specs.declared.line.Line.{Line}
use Rattle.ft_line.specs.declared.line.LineFault.{LineFault}
use Rattle.ft_line.specs.declared.line.LineFault.TheVariants as lines
use Rattle.ft_line.specs.LineGives.{ReadsLine}
use Rattle.ft_files.specs.declared.databases.OpenFault.{OpenFault}
use Rattle.ft_files.specs.declared.databases.OpenFault.TheVariants as opening
use Rattle.ft_program.specs.Inputs.{NotOpened, Outputs, RunsOver, Spares, due}
use Rattle.ft_files.specs.Hosts.{Names, Stay}
use Rattle.ft_files.specs.Opening.{IsNoPlain, IsNoStore}
use Rattle.ft_program.specs.Closed.{AreClosed, Closed}
use Rattle.ft_program.specs.InFiles.{RunsInFiles}

-- The inputs are run from two empty databases, which are closed in the end.
pub record FromNothing {D : Type 0} (g : disk.Ghosts D) (settings : Settings) (inputs : List (Option (List ℕ))) (old new : Outputs) (status : ℕ) : Type 0 where
  pub plain : Held (FileStore D g)
  pub no_plain : IsNoPlain over_files plain
  pub store : StoreState (FileStore D g)
  pub no_store : IsNoStore over_files store
  pub runs : RunsOver over_files over_files settings plain store inputs old new status
  -- nothing is supposed of the disk
  pub kept : PromiseKept over_files over_files [] (record { settings = settings; plain = plain; full_text = runs.made }) runs.reads runs.all runs.last.parts
  pub tables : Closed D
  pub texts : Closed D
  pub closed : AreClosed tables texts runs.last.parts

-- a database in memory isn't opened only where there is no memory for it
abbrev pub IsOfMemory : OpenFault → Type 0
IsOfMemory why = (why ≡ opening.Database) ⊎ (why ≡ opening.Store)

-- so it is in memory, or a database isn't opened
abbrev pub RunsInMemory : Settings → List (Option (List ℕ)) → Outputs → Outputs → ℕ → Type 0
RunsInMemory settings inputs old new status = ((why : OpenFault) × IsOfMemory why × NotOpened why old new status)
    ⊎ FromNothing ghosts settings inputs old new status

-- what a command line with this FILE does, or with none
abbrev pub RunsIn : {D : Type 0} → disk.Ghosts D → Bool → Names → Names → Option (String Global) → Settings → List (Option (List ℕ)) → Outputs
    → Outputs → ℕ → Type 0
RunsIn g tells held left None settings inputs old new status = (IsTrue tells → Stay held left) × RunsInMemory settings inputs old new status
RunsIn g tells held left (Some path) settings inputs old new status = RunsInFiles g tells (string_bytes path) held left settings inputs old new status

-- what a command line does
abbrev pub RunsLine : {D : Type 0} → disk.Ghosts D → Bool → Names → Names → Line → Option (List ℕ) → Outputs → Outputs → ℕ → Type 0
RunsLine g tells held left line standard old new status = RunsIn g tells held left line.file line.settings
    (due (map string_bytes line.inputs.items) standard) old new status

-- a text of `clap` that the words ask for
abbrev pub is_asked_for : ErrorKind → Bool
is_asked_for kind.DisplayHelp = true
is_asked_for kind.DisplayVersion = true
is_asked_for _ = false

-- the help and the version go to the output alone, with status 0, and any other text of `clap` to the errors alone, with status 2
abbrev pub RefusesWords : Error → Outputs → Outputs → ℕ → Type 0
RefusesWords e old new status = ((is_asked_for (kind_of e) ≡ true) × (status ≡ 0) × (new.err ≡ old.err))
    ⊎ ((is_asked_for (kind_of e) ≡ false) × (status ≡ 2) × (new.out ≡ old.out))

-- Nothing is run of words that mean no line, and nothing but the help and the version goes to the output. The status is 2, but for these.
abbrev pub RefusesLine : LineFault → Outputs → Outputs → ℕ → Type 0
RefusesLine (lines.Words e) old new status = RefusesWords e old new status
RefusesLine lines.Conflict old new status = (status ≡ 2) × (new.out ≡ old.out)
RefusesLine lines.BadSeparator old new status = (status ≡ 2) × (new.out ≡ old.out)
RefusesLine lines.Memory old new status = (status ≡ 2) × (new.out ≡ old.out)

-- The words mean a line, and it is run over what a host holds; or they mean none, or memory lacks to read them: then no name is touched.
abbrev pub Starts : {D : Type 0} → disk.Ghosts D → Bool → Names → Names → List (List ℕ) → Option (List ℕ) → Outputs → Outputs → ℕ → Type 0
Starts g tells held left words standard old new status =
    ((why : LineFault) × ReadsLine words (Err why) × RefusesLine why old new status × (IsTrue tells → Stay held left))
    ⊎ ((line : Line) × ReadsLine words (Ok line) × RunsLine g tells held left line standard old new status)

-- The standard input is read only where the words mean a line without texts.
abbrev pub SparesInput : {X : Type 0} → List (List ℕ) → X → X → Type 0
SparesInput words before after = ((why : LineFault) × ReadsLine words (Err why) × (after ≡ before))
    ⊎ ((line : Line) × ReadsLine words (Ok line) × Spares (map string_bytes line.inputs.items) before after)
