-- Meaning. What is left in the files of both databases as they are closed, and how a run over both ends (own choice).
use Rattle.std.specs.Prelude.{ℕ, ◌≡◌, ◌⊎◌, ◌&&◌, Bool, true, false, List, [], ◌∷◌, ◌++◌, codes, Option, Result, Ok, Err, is_ok}
use Rattle.sqlite_disk.specs.declared.Disk as disk
use Rattle.sqlite_disk.specs.declared.Files.{Files}
use Rattle.sqlite_store.specs.declared.store.FileStore.{FileStore}
use Rattle.sqlite_wal.specs.Reads.{AreClean}
use Rattle.sqlite.specs.Closing.{IsCopied}
use Rattle.sqlite.specs.Files.{file_state, over_files}
use Rattle.sqlite.specs.Store.{Ghosts}
use Rattle.sqlite.specs.Held.{Held}
use Rattle.shell_text.specs.Print.{Settings}
use Rattle.ft_store.specs.Calls.{IsStored}
use Rattle.ft_store.specs.Kept.{StoreState, value_in}
use Rattle.ft_index.specs.DocumentsRead.{Looks}
use Rattle.shell_io.specs.Writing.{AppendsUpTo}
use Rattle.ft_shell.specs.Shell.{Parts}
use Rattle.ft_files.specs.declared.databases.OpenFault.TheVariants as opening
use Rattle.ft_files.specs.Hosts.{IsLeft, IsRefusedClose}
use Rattle.ft_program.specs.Inputs.{NotOpened, Outputs, RunsOver}

-- the files of a database that is closed
abbrev pub Closed : Type 0 → Type 0
Closed D = Result (Files D) (Files D)

-- Of the full-text store, too, the last commit is in its file alone, and it is what the store holds.
abbrev pub IsStoreLeft : {D : Type 0} {g : disk.Ghosts D} → StoreState (FileStore D g) → Closed D → Type 0
IsStoreLeft {D} {g} s (Ok files) = AreClean g files.log files.db → IsCopied s.held files × IsStored (file_state s.held).committed.trees (value_in over_files s)
IsStoreLeft s (Err files) = IsRefusedClose s.held files

-- the line for a close that is refused
abbrev pub close_line : List ℕ
close_line = codes "Error: unable to close database" ++ 10 ∷ []

-- It is written where one of both is, or as much of it as goes out, and then the status is 1. Else nothing is written, and the status
-- stays.
abbrev pub TellsClose : Bool → Option (List ℕ) → Option (List ℕ) → ℕ → ℕ → Type 0
TellsClose true old new ended status = (new ≡ old) × (status ≡ ended)
TellsClose false old new ended status = AppendsUpTo old new close_line × (status ≡ 1)

module _ {P S : Type 0} (g : Ghosts P) (h : Ghosts S) where
  -- the store can't be read: nothing is run, and it was at most looked at
  pub record IsUnread (plain : Held P) (store : StoreState S) (plain_after : Held P) (after : StoreState S) (old new : Outputs) (status : ℕ) : Type 0 where
    pub told : NotOpened opening.Store old new status
    pub same : plain_after ≡ plain
    pub looked : Looks h store after

  -- both are as a session holds them
  pub record AreHeldIn (parts : Parts P S) (plain : Held P) (store : StoreState S) : Type 0 where
    pub plain_is : plain ≡ parts.plain
    pub store_is : store ≡ parts.full_text.store

  -- so it is, or the inputs are run over both, and they are as the last one leaves them
  abbrev pub RunsBoth : Settings → Held P → StoreState S → List (Option (List ℕ)) → Held P → StoreState S → Outputs → Outputs → ℕ → Type 0
  RunsBoth settings plain store inputs plain_after after old new status = IsUnread plain store plain_after after old new status
      ⊎ ((it : RunsOver g h settings plain store inputs old new status) × AreHeldIn it.last.parts plain_after after)

module _ {D E : Type 0} {g : disk.Ghosts D} {h : disk.Ghosts E} where
  -- both are closed so
  pub record AreClosed (tables : Closed D) (texts : Closed E) (parts : Parts (FileStore D g) (FileStore E h)) : Type 0 where
    pub tables_left : IsLeft parts.plain tables
    pub texts_left : IsStoreLeft parts.full_text.store texts

  -- they are run over both, and then both are closed
  pub record RunsOn (settings : Settings) (plain : Held (FileStore D g)) (store : StoreState (FileStore E h)) (inputs : List (Option (List ℕ)))
      (tables : Closed D) (texts : Closed E) (old new : Outputs) (status : ℕ) : Type 0 where
    pub plain_after : Held (FileStore D g)
    pub after : StoreState (FileStore E h)
    pub runs : RunsBoth over_files over_files settings plain store inputs plain_after after old new status
    pub tables_left : IsLeft plain_after tables
    pub texts_left : IsStoreLeft after texts

  -- over files what is told of the closes comes last
  pub record RunsAndTells (settings : Settings) (plain : Held (FileStore D g)) (store : StoreState (FileStore E h)) (inputs : List (Option (List ℕ)))
      (tables : Closed D) (texts : Closed E) (old new : Outputs) (status : ℕ) : Type 0 where
    pub mid : Outputs
    pub ended : ℕ
    pub runs : RunsOn settings plain store inputs tables texts old mid ended
    pub out : new.out ≡ mid.out
    pub told : TellsClose (is_ok tables && is_ok texts) mid.err new.err ended status
