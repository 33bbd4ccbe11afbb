-- Meaning. The two databases of a command line (own choice).
use Rattle.std.specs.Prelude.{◌≡◌, ◌⊎◌, ℕ, List, ◌++◌, Bool, true, false, bit_and, length, nat_eq, nat_lt, if◌then◌else◌, codes, None, Result, IfOk, IfErr}
use Rattle.std.specs.List.{starts_with}
use Rattle.std.specs.Option.{option_map_or}
use Rattle.std.specs.Path.{path_file_name}
use Rattle.sqlite.specs.Held.{Held, IsNew, state}
use Rattle.sqlite.specs.State.{HasCleanDisk}
use Rattle.sqlite.specs.Steps.{IsEmpty}
use Rattle.sqlite.specs.Store.{Ghosts}
use Rattle.sqlite_disk.specs.declared.Disk as disk
use Rattle.sqlite_store.specs.declared.store.FileStore.{FileStore}
use Rattle.sqlite_wal.specs.Recovery.{Image}
use Rattle.ft_rows.specs.Store.{nothing_held}
use Rattle.ft_store.specs.declared.fault.StoreFault.{StoreFault}
use Rattle.ft_store.specs.declared.fault.StoreFault.TheVariants as store
use Rattle.ft_store.specs.Calls.{IsPlainFault}
use Rattle.ft_store.specs.Kept.{StoreState, shows, value_in}
use Rattle.ft_opening.specs.Opened.{IsNotTakenFrom, IsOpenedFrom}
use Rattle.ft_files.specs.declared.databases.OpenFault.{OpenFault}
use Rattle.ft_files.specs.declared.databases.OpenFault.TheVariants as fault

-- why a store is not opened: it is none, or of a version that is not taken, or no more is known
abbrev pub open_fault_of : StoreFault → OpenFault
open_fault_of store.NotAStore = fault.NotAStore
open_fault_of (store.Version n) = fault.Version n
open_fault_of _ = fault.Store

-- where the file of a name lies: one that begins with `file:` is no URI
abbrev pub file_path : List ℕ → List ℕ
file_path path = if starts_with nat_eq path (codes "file:") then codes "./" ++ path else path

-- the name of the file at a path has over 242 bytes: that of NAME-fts4-journal would have over 255
abbrev pub has_long_name : List ℕ → Bool
has_long_name path = option_map_or (λ name. nat_lt 242 (length name)) (path_file_name path) false

-- the file of the full-text store, beside that of the plain tables
abbrev pub store_path : List ℕ → List ℕ
store_path path = path ++ codes "-fts4"

-- Who may do what with the file of a new store: its owner, its group and all others what they may do with the file of the plain tables, by
-- the nine lowest bits of its mode; but for the group, with three of them, where that is another.
abbrev pub mode_beside : ℕ → Bool → ℕ
mode_beside mode true = bit_and mode 0x1ff
mode_beside mode false = bit_and mode 0x1c7

-- what a call opens, and why it opens nothing
pub record Opens {X : Type 0} (result : Result X OpenFault) (Is : X → Type 0) (IsCause : OpenFault → Type 0) : Type 0 where
  pub opened : IfOk result Is
  pub refused : IfErr result IsCause

-- a new connection to no plain tables
pub record IsNoPlain {P : Type 0} (g : Ghosts P) (conn : Held P) : Type 0 where
  pub empty : IsEmpty (state g conn)
  pub clean : HasCleanDisk (state g conn)
  pub fresh : IsNew conn

-- an empty store, of which no row was read, without a limit on steps
pub record IsNoStore {S : Type 0} (h : Ghosts S) (store : StoreState S) : Type 0 where
  pub empty : value_in h store ≡ nothing_held
  pub clean : HasCleanDisk (shows h store)
  pub unread : store.rows_read ≡ 0
  pub unlimited : store.held.step_limit ≡ None

-- the store that is found in files which held this image, of which no row was read
pub record IsStoreFrom {D : Type 0} {g : disk.Ghosts D} (image : Image) (store : StoreState (FileStore D g)) : Type 0 where
  pub opened : IsOpenedFrom image store.held
  pub unread : store.rows_read ≡ 0

-- why it is not opened: a plain fault, or the database that is found in them is not taken as a store
abbrev pub IsNoStoreFor : {D : Type 0} → disk.Ghosts D → Image → OpenFault → Type 0
IsNoStoreFor g image f = (cause : StoreFault) × (f ≡ open_fault_of cause) × (IsPlainFault cause ⊎ IsNotTakenFrom g image cause)

-- both databases, empty and in memory
abbrev pub OpensMemory : {P S : Type 0} → Ghosts P → Ghosts S → Result (Held P × StoreState S) OpenFault → Type 0
OpensMemory g h result = Opens result (λ both. IsNoPlain g both.0 × IsNoStore h both.1) (λ f. (f ≡ fault.Database) ⊎ (f ≡ fault.Store))
