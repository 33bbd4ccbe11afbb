-- Meaning. What a host of databases holds under each name, and what is left there of a database that was opened (own choice).
use Rattle.std.specs.Prelude.{◌≡◌, ◌≢◌, ◌⊎◌, ℕ, Bool, List, [], Result, Ok, Err, IsTrue, IfOk, IfErr}
use Rattle.sqlite_disk.specs.declared.Disk as disk
use Rattle.sqlite_disk.specs.declared.Files.{Files}
use Rattle.sqlite_store.specs.declared.store.FileStore.{FileStore}
use Rattle.sqlite_store.specs.FileStore as store
use Rattle.sqlite_trees.specs.View.{IsClean}
use Rattle.sqlite_wal.specs.Recovery.{Image}
use Rattle.sqlite_wal.specs.Reads.{AreClean}
use Rattle.sqlite.specs.declared.error.Error.{Error}
use Rattle.sqlite.specs.declared.file.Leftover.{Leftover}
use Rattle.sqlite.specs.Closing.{IsCopied, files_left}
use Rattle.sqlite.specs.Files.{FailsToClose, IsCleanLeft, IsClosed, LeavesFiles, image_of, over_files}
use Rattle.sqlite.specs.Held.{Held}
use Rattle.ft_store.specs.declared.fault.StoreFault.{StoreFault}
use Rattle.ft_opening.specs.Adopted.{IsNotTaken, LeavesMade}
use Rattle.ft_store.specs.Kept.{StoreState}
use Rattle.ft_opening.specs.Opened.{IsNewFrom}
use Rattle.ft_files.specs.declared.databases.OpenFault.{OpenFault}
use Rattle.ft_files.specs.declared.databases.OpenFault.TheVariants as fault
use Rattle.ft_files.specs.Opening.{IsNoStoreFor, IsStoreFrom}

-- the two files of each name
abbrev pub Names : Type 0
Names = List ℕ → Image

-- nothing
abbrev pub empty_image : Image
empty_image = record { log = []; db = [] }

-- all names hold what they held, or all but one do
abbrev pub Stay : Names → Names → Type 0
Stay old new = (other : List ℕ) → new other ≡ old other

abbrev pub StayBut : List ℕ → Names → Names → Type 0
StayBut name old new = (other : List ℕ) → other ≢ name → new other ≡ old other

-- the image that a name holds, where the host tells it
abbrev pub IsHeld : Bool → Image → Image → Type 0
IsHeld tells held image = IsTrue tells → image ≡ held

-- ---- a database that is closed

-- the files that are left, whether its log was copied into its file or not
abbrev pub files_in : {D : Type 0} → Result (Files D) (Files D) → Files D
files_in (Ok files) = files
files_in (Err files) = files

-- The close is refused, for a fault of the files or want of memory: a crash leaves what it could leave before.
pub record IsRefusedClose {D : Type 0} {g : disk.Ghosts D} (c : Held (FileStore D g)) (files : Files D) : Type 0 where
  pub last : FileStore D g
  pub are : (files.log, files.db) ≡ store.files last
  pub closed : IsClosed c last
  pub cause : IsClean (store.view last) → (e : Error) × FailsToClose c last e

-- Of a database that is closed the last commit stands in its file alone, as that reads now and after a crash, if the disk returned what was
-- written.
abbrev pub IsLeft : {D : Type 0} {g : disk.Ghosts D} → Held (FileStore D g) → Result (Files D) (Files D) → Type 0
IsLeft {D} {g} c (Ok files) = AreClean g files.log files.db → IsCopied c files
IsLeft c (Err files) = IsRefusedClose c files

-- ---- a database that is let go with nothing done to it

-- it could not be opened over the files that held this image: they are left as an open leaves them
pub record IsUnopened {D : Type 0} (g : disk.Ghosts D) (before after : Image) : Type 0 where
  pub files : Files D
  pub held : image_of g files ≡ before
  pub rest : Leftover D g
  pub unharmed : IsCleanLeft rest → LeavesFiles files rest
  pub now : Files D
  pub are : (now.log, now.db) ≡ files_left rest
  pub left : after ≡ image_of g now

-- It was opened, and closed again: what was found, and perhaps asked whether it is a store, without being taken as one.
pub record IsClosedAgain {D : Type 0} (g : disk.Ghosts D) (before after : Image) : Type 0 where
  pub conn : Held (FileStore D g)
  pub found : IsNewFrom before conn
  pub last : Held (FileStore D g)
  pub same : (last ≡ conn) ⊎ ((cause : StoreFault) × IsNotTaken over_files conn last cause × LeavesMade over_files conn last)
  pub result : Result (Files D) (Files D)
  pub closed : IsLeft last result
  pub left : after ≡ image_of g (files_in result)

abbrev pub IsLetGo : {D : Type 0} → disk.Ghosts D → Image → Image → Type 0
IsLetGo g before after = (after ≡ before) ⊎ (IsUnopened g before after ⊎ IsClosedAgain g before after)

-- ---- what a call opens

-- the plain tables under a name, or why there are none
pub record OpensPlainIn {D : Type 0} (g : disk.Ghosts D) (tells : Bool) (name : List ℕ) (old new : Names)
    (result : Result (Held (FileStore D g)) OpenFault) : Type 0 where
  pub opened : IfOk result (λ conn. (image : Image) × IsHeld tells (old name) image × IsNewFrom image conn)
  pub refused : IfErr result (λ f. (f ≡ fault.Database) × (IsTrue tells → IsLetGo g (old name) (new name)))
  pub others : IsTrue tells → StayBut name old new

-- the store under a name, or why there is none
pub record OpensStoreIn {D : Type 0} (g : disk.Ghosts D) (tells : Bool) (name : List ℕ) (old new : Names)
    (result : Result (StoreState (FileStore D g)) OpenFault) : Type 0 where
  pub opened : IfOk result (λ made. (image : Image) × IsHeld tells (old name) image × IsStoreFrom image made)
  pub refused : IfErr result (λ f. (image : Image) × IsHeld tells (old name) image × IsNoStoreFor g image f)
  pub let_go : IfErr result (λ f. IsTrue tells → IsLetGo g (old name) (new name))
  pub others : IsTrue tells → StayBut name old new

-- Both, under the name of a FILE and the one beside it. Where one is not opened, neither is: what was opened is let go, and no other name
-- is touched.
pub record OpensBothIn {D : Type 0} (g : disk.Ghosts D) (tells : Bool) (path beside : List ℕ) (old new : Names)
    (result : Result (Held (FileStore D g) × StoreState (FileStore D g)) OpenFault) : Type 0 where
  pub plain : IfOk result (λ both. (image : Image) × IsHeld tells (old path) image × IsNewFrom image both.0)
  pub store : IfOk result (λ both. (image : Image) × IsHeld tells (old beside) image × IsStoreFrom image both.1)
  pub refused : IfErr result (λ f. (f ≡ fault.Database) ⊎ ((image : Image) × IsHeld tells (old beside) image × IsNoStoreFor g image f))
  pub plain_left : IfErr result (λ _. IsTrue tells → IsLetGo g (old path) (new path))
  pub store_left : IfErr result (λ _. IsTrue tells → IsLetGo g (old beside) (new beside))
  pub others : IsTrue tells → (other : List ℕ) → other ≢ path → other ≢ beside → new other ≡ old other
