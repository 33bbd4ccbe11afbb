-- Meaning. What a start finds of a full-text store that was closed, or that a crash left (own choice).
use Rattle.std.specs.Prelude.{◌≡◌, ◌≢◌, ℤ, List}
use Rattle.sqlite_disk.specs.declared.Disk as disk
use Rattle.sqlite_store.specs.declared.store.FileStore.{FileStore}
use Rattle.sqlite_wal.specs.Recovery.{Image}
use Rattle.sqlite_trees.specs.Tree.{Trees}
use Rattle.sqlite.specs.Files.{HoldsDatabase, file_state, over_files}
use Rattle.sqlite.specs.State.{HasCleanDisk}
use Rattle.ft_store.specs.declared.fault.StoreFault.{StoreFault}
use Rattle.ft_store.specs.declared.fault.StoreFault.TheVariants as fault
use Rattle.ft_store.specs.Kept.{StoreState, shows, value_in}
use Rattle.ft_opening.specs.Opened.{IsNotTakenFrom}
use Rattle.ft_content.specs.Step.{Contents}
use Rattle.ft_calls.specs.Kept.{StoreHolds}
use Rattle.ft_calls.specs.Kept.{HoldsLeft, Name}
use Rattle.ft_files.specs.Opening.{IsStoreFrom}

-- Of files that held this image a store is opened that holds these contents and noted names; and they are never refused as no store, or as
-- one of another version.
pub record FindsLeft {D : Type 0} (g : disk.Ghosts D) (image : Image) (contents : Contents) (names : List Name) : Type 0 where
  pub held : (store : StoreState (FileStore D g)) → IsStoreFrom image store → HasCleanDisk (shows over_files store)
      → StoreHolds (value_in over_files store) contents
  pub noted : (store : StoreState (FileStore D g)) → IsStoreFrom image store → HasCleanDisk (shows over_files store) → (value_in over_files store).noted ≡ names
  pub taken : (cause : StoreFault) (it : IsNotTakenFrom g image cause) → HasCleanDisk (file_state it.after) → (cause ≢ fault.NotAStore)
      × ((n : ℤ) → cause ≢ fault.Version n)

-- So it is of files that hold what was left.
abbrev pub FindsWhatIsLeft : {D : Type 0} → disk.Ghosts D → Type 0
FindsWhatIsLeft g = (image : Image) (db : Trees) (contents : Contents) (names : List Name) → HoldsDatabase image db → HoldsLeft contents names db
    → FindsLeft g image contents names
