-- Meaning. A store as callers see it: the connection that it holds, and how many rows its reads gave.
use Rattle.std.specs.Prelude.{◌≡◌, ℕ, ◌+◌, ◌-◌, ◌^◌, min, false, refl, Result, Err, IsTrue, IfOk, IfErr, OnOk, OnErr}
use Rattle.std.specs.Coded.{Coded, code_by, coded×, coded_ℕ}
use Rattle.sqlite.specs.State.{State, HasCleanDisk, Survives}
use Rattle.sqlite.specs.Store.{Ghosts}
use Rattle.sqlite.specs.Held.{Held, held_code, state}
use Rattle.ft_rows.specs.Store.{StoreValue}
use Rattle.ft_store.specs.Rows.{value_of}
use Rattle.ft_store.specs.Calls.{IsPlainFault, IsStored, IsStoreIfOpen, Keeps}
use Rattle.ft_store.specs.declared.fault.StoreFault.{StoreFault}
use Rattle.ft_store.specs.declared.fault.StoreFault.TheVariants as fault
use Rattle.ft_store.specs.Blame.{IsBlamed}

pub record StoreState (S : Type 0) : Type 0 where
  pub held : Held S
  pub rows_read : ℕ

abbrev pub store_code : {S : Type 0} → Coded S → Coded (StoreState S)
store_code {S} s = code_by (Held S × ℕ) (coded× (held_code s) coded_ℕ) (λ t. (t.held, t.rows_read)) (λ p. record { held = p.0; rows_read = p.1 }) (λ _. refl)

-- what the connection of a store shows, and the value that the store has
abbrev pub shows : {S : Type 0} → Ghosts S → StoreState S → State
shows g s = state g s.held

abbrev pub value_in : {S : Type 0} → Ghosts S → StoreState S → StoreValue
value_in g s = value_of (shows g s).now.trees

-- what a store keeps true of its connection between calls
pub record IsKept {S : Type 0} (g : Ghosts S) (h : Held S) : Type 0 where
  pub settled : h.in_transaction ≡ false
  pub store : IsStoreIfOpen (state g h)

-- no transaction is open, and the last commit of an open store is what it holds
pub record AreCommitted {S : Type 0} (g : Ghosts S) (s : StoreState S) : Type 0 where
  pub settled : (shows g s).in_transaction ≡ false
  pub stored : HasCleanDisk (shows g s) → IsTrue (shows g s).is_open → IsStored (shows g s).committed.trees (value_in g s)

-- so many rows more, as a number of 64 bits that stays at its greatest value
abbrev pub more_rows : {S : Type 0} → ℕ → StoreState S → ℕ
more_rows n s = min (s.rows_read + n) (2 ^ 64 - 1)

-- What a read of a store leaves, whatever it is answered: what is seen stays, and an answer leaves the database open; a crash leaves what
-- it could leave before; and an answer counts so many rows more. It is refused for such a reason.
pub record ReadsRows {S X : Type 0} (g : Ghosts S) (old new : StoreState S) (result : Result X StoreFault) (count : X → ℕ)
    (IsFault : StoreFault → Type 0) : Type 0 where
  pub kept : HasCleanDisk (shows g new) → Keeps (shows g old) (shows g new)
  pub live : HasCleanDisk (shows g new) → OnOk result (IsTrue (shows g new).is_open)
  pub survives : Survives (shows g old) (shows g new) (λ _. IsTrue (shows g old).is_open → ⊥)
  pub counted : IfOk result (λ x. new.rows_read ≡ more_rows (count x) old)
  pub uncounted : OnErr result (new.rows_read ≡ old.rows_read)
  pub causes : IfErr result IsFault

-- What is left by a question whether the database is open: nothing is changed, read or committed, Ok says that it is open, and Refused that
-- it wasn't or that its disk failed.
pub record Pings {S : Type 0} (g : Ghosts S) (old new : StoreState S) (result : Result (Unit {0}) StoreFault) : Type 0 where
  pub kept : HasCleanDisk (shows g new) → Keeps (shows g old) (shows g new)
  pub live : HasCleanDisk (shows g new) → OnOk result (IsTrue (shows g new).is_open)
  pub survives : Survives (shows g old) (shows g new) (λ _. ⊥)
  pub unread : new.rows_read ≡ old.rows_read
  pub cause : IfErr result IsPlainFault
  pub refused : HasCleanDisk (shows g new) → result ≡ Err fault.Refused → IsBlamed (shows g old) (shows g new)
