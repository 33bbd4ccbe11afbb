-- Want of memory, or another fault.
use Rattle.std.proofs.Common.{◌≡◌, ◌⊎◌, inl, inr, Result, Ok, Err, refl, ◌≢◌, IfErr}
use Rattle.ft_index.proofs.Common.{Fault}
use Rattle.ft_values.specs.declared.fault.Fault.TheVariants as faults

memory_or : (fault : Fault) → (fault ≡ faults.Memory) ⊎ (fault ≢ faults.Memory)
memory_or faults.Memory = inl refl
memory_or _ = inr (λ e. let no = e in cc)

-- a fault that is answered but for want of memory
pub if_err_memory : {X : Type 0} (r : Result X Fault) (P Q : Fault → Type 0) → ((fault : Fault) → P fault → Q fault) → IfErr r (λ fault. fault ≢ faults.Memory → P fault) → IfErr r (λ fault. (fault ≡ faults.Memory) ⊎ Q fault)
if_err_memory (Ok x) P Q f h = tt
if_err_memory (Err fault) P Q f h = elim (memory_or fault) [ inl is ↦ inl is | inr other ↦ inr (f fault (h other)) ]
