-- Meaning. What a store holds that is opened from files (own choice).
use Rattle.std.specs.Prelude.{◌⊎◌, Result, IfErr}
use Rattle.sqlite_disk.specs.declared.Disk as disk
use Rattle.sqlite_store.specs.declared.store.FileStore.{FileStore}
use Rattle.sqlite_wal.specs.Recovery.{Image}
use Rattle.sqlite.specs.Files.{file_state, over_files, IsOpened}
use Rattle.sqlite.specs.Held.{Held, IsNew}
use Rattle.sqlite.specs.Start.{FindsIn}
use Rattle.sqlite.specs.State.{HasCleanDisk}
use Rattle.ft_store.specs.declared.fault.StoreFault.{StoreFault}
use Rattle.ft_opening.specs.Adopted.{IsTakenAsStore, IsNotTaken, LeavesMade}
use Rattle.ft_store.specs.Calls.{IsPlainFault}
use Rattle.ft_store.specs.Kept.{StoreState}

-- The files held this image. The database that is found in it was opened, and then it was taken as a store.
pub record IsOpenedFrom {D : Type 0} {g : disk.Ghosts D} (image : Image) (store : Held (FileStore D g)) : Type 0 where
  pub conn : Held (FileStore D g)
  pub fresh : IsNew conn
  pub opened : HasCleanDisk (file_state conn) → IsOpened conn
  pub found : HasCleanDisk (file_state conn) → FindsIn image (file_state conn)
  pub taken : IsTakenAsStore over_files conn store
  pub left : LeavesMade over_files conn store

-- The same up to the end, where the database was not taken, for this cause.
pub record IsNotTakenFrom {D : Type 0} (g : disk.Ghosts D) (image : Image) (cause : StoreFault) : Type 0 where
  pub conn : Held (FileStore D g)
  pub fresh : IsNew conn
  pub opened : HasCleanDisk (file_state conn) → IsOpened conn
  pub found : HasCleanDisk (file_state conn) → FindsIn image (file_state conn)
  pub after : Held (FileStore D g)
  pub refused : IsNotTaken over_files conn after cause
  pub left : LeavesMade over_files conn after

-- an open is refused for a plain fault, or since the database that was found is not taken
abbrev pub IsRefusedFrom : {D : Type 0} {g : disk.Ghosts D} → Image → Result (StoreState (FileStore D g)) StoreFault → Type 0
IsRefusedFrom {D} {g} image result = IfErr result (λ cause. IsPlainFault cause ⊎ IsNotTakenFrom g image cause)

-- a connection that was just opened over files that held this image
pub record IsNewFrom {D : Type 0} {g : disk.Ghosts D} (image : Image) (conn : Held (FileStore D g)) : Type 0 where
  pub fresh : IsNew conn
  pub opened : HasCleanDisk (file_state conn) → IsOpened conn
  pub found : HasCleanDisk (file_state conn) → FindsIn image (file_state conn)
