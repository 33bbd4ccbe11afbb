-- Meaning. What the program does over a FILE, by what its host tells of the two names (own choice).
use Rattle.std.specs.Prelude.{ℕ, ◌≡◌, ◌≢◌, ◌⊎◌, Bool, true, List, Option, IsTrue}
use Rattle.sqlite_disk.specs.declared.Disk as disk
use Rattle.sqlite_store.specs.declared.store.FileStore.{FileStore}
use Rattle.sqlite_wal.specs.Recovery.{Image}
use Rattle.sqlite.specs.Files.{image_of}
use Rattle.sqlite.specs.Held.{Held}
use Rattle.shell_text.specs.Print.{Settings}
use Rattle.ft_store.specs.Kept.{StoreState}
use Rattle.ft_opening.specs.Opened.{IsNewFrom}
use Rattle.ft_files.specs.declared.databases.OpenFault.{OpenFault}
use Rattle.ft_files.specs.declared.databases.OpenFault.TheVariants as opening
use Rattle.ft_files.specs.Hosts.{IsHeld, IsLetGo, Names, Stay, files_in}
use Rattle.ft_files.specs.Opening.{IsNoStoreFor, IsStoreFrom, file_path, has_long_name, store_path}
use Rattle.ft_program.specs.Inputs.{NotOpened, Outputs}
use Rattle.ft_program.specs.Closed.{Closed, RunsAndTells}
use Rattle.ft_program.specs.Reopened.{FindsWhatIsLeft}

-- a name that is too long is told, and no name is touched
abbrev pub IsLong : Bool → Names → Names → Outputs → Outputs → ℕ → Type 0
IsLong tells held left old new status = NotOpened opening.Database old new status × (IsTrue tells → Stay held left)

module _ {D : Type 0} (g : disk.Ghosts D) (tells : Bool) (path beside : List ℕ) (held left : Names) where
  -- why one of them is not opened: there is no telling of the plain tables; or the full-text store that the host holds is not taken, or
  -- can't be opened
  abbrev pub IsCause : OpenFault → Type 0
  IsCause why = (why ≡ opening.Database) ⊎ ((image : Image) × IsHeld tells (held beside) image × IsNoStoreFor g image why)

  -- One of them isn't opened, and the program says so. What was opened is let go with nothing done to it.
  pub record IsRefused (old new : Outputs) (status : ℕ) : Type 0 where
    pub why : OpenFault
    pub cause : IsCause why
    pub told : NotOpened why old new status
    pub tables_left : IsTrue tells → IsLetGo g (held path) (left path)
    pub texts_left : IsTrue tells → IsLetGo g (held beside) (left beside)

  -- Two databases are opened over the files that the host holds: the plain tables that are found in the one, and the full-text store that
  -- is found in the other. The inputs are run over them, and then both are closed, and their files given back. A close that is refused is
  -- told.
  pub record FromFiles (settings : Settings) (inputs : List (Option (List ℕ))) (old new : Outputs) (status : ℕ) : Type 0 where
    pub tables : Image
    pub tables_held : IsHeld tells (held path) tables
    pub plain : Held (FileStore D g)
    pub tables_found : IsNewFrom tables plain
    pub texts : Image
    pub texts_held : IsHeld tells (held beside) texts
    pub store : StoreState (FileStore D g)
    pub texts_found : IsStoreFrom texts store
    pub tables_closed : Closed D
    pub texts_closed : Closed D
    pub runs : RunsAndTells settings plain store inputs tables_closed texts_closed old new status
    pub tables_left : IsTrue tells → left path ≡ image_of g (files_in tables_closed)
    pub texts_left : IsTrue tells → left beside ≡ image_of g (files_in texts_closed)
    -- what a crash or the close leaves of the store is what the next start finds
    pub again : FindsWhatIsLeft g

  -- no other name is touched
  abbrev pub OthersStay : Type 0
  OthersStay = IsTrue tells → (other : List ℕ) → other ≢ path → other ≢ beside → left other ≡ held other

  abbrev pub RunsBeside : Settings → List (Option (List ℕ)) → Outputs → Outputs → ℕ → Type 0
  RunsBeside settings inputs old new status = OthersStay × (IsRefused old new status ⊎ FromFiles settings inputs old new status)

-- So it is over the FILE and the one beside it. Where its name is too long nothing is opened or made.
abbrev pub RunsInFiles : {D : Type 0} → disk.Ghosts D → Bool → List ℕ → Names → Names → Settings → List (Option (List ℕ)) → Outputs → Outputs → ℕ → Type 0
RunsInFiles g tells path held left settings inputs old new status = RunsBeside g tells (file_path path) (store_path (file_path path)) held left settings
    inputs old new status × (has_long_name path ≡ true → IsLong tells held left old new status)
