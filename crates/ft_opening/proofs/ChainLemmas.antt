-- Looks at a database, one after another.
use Rattle.std.proofs.Common.{◌≡◌, false, Result, Ok, refl, arith, IsTrue, inl, IfErr}
use Rattle.ft_opening.proofs.Common.{State, HasCleanDisk, Survives, Ghosts, Held}
use Rattle.ft_store.specs.declared.fault.StoreFault.{StoreFault}
use Rattle.ft_store.specs.Calls.{IsPlainFault, Keeps, ReadsOnly}
use Rattle.ft_store.proofs.{ok_too}

-- reads from `old` to `now`, perhaps none
pub record Looking (old now : State) : Type 0 where
  pub mode : now.in_transaction ≡ false
  pub kept : HasCleanDisk now → Keeps old now
  pub live : HasCleanDisk now → IsTrue old.is_open → IsTrue now.is_open
  pub survives : Survives old now (λ _. IsTrue old.is_open → ⊥)

pub no_look : (s : State) → s.in_transaction ≡ false → Looking s s
no_look s mode = record {
  mode = mode;
  kept = λ clean is_open. (refl, refl, is_open);
  live = λ clean is_open. is_open;
  survives = record { clean = omega arith; shield = λ h. h; counts = omega arith; limit = refl; closes = λ clean is_open. inl is_open; crash = λ clean db h. inl h };
}

pub reads_on : {S X Y : Type 0} (g : Ghosts S) (old new : Held S) (x : X) (result : Result Y StoreFault) → ReadsOnly g old new (Ok x) IsPlainFault → IfErr result IsPlainFault → ReadsOnly g old new result IsPlainFault
reads_on g old new x result it fault = record { kept = it.kept; live = λ clean. ok_too result (it.live clean); mode = it.mode; survives = it.survives; fault = fault }
