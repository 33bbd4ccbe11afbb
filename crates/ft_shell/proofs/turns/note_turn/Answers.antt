-- the note, after the warnings
use Rattle.std.proofs.Common.{◌≡◌, ◌⊎◌, refl, ap, inl, inr, Ok, Err}
use Rattle.ft_values.specs.declared.fault.Fault.{Fault}
use Rattle.ft_values.specs.declared.fault.Fault.TheVariants as faults
use Rattle.ft_shell.proofs.turns.note_turn.Goals as goal

pub returns-in-Ok : goal.returns-in-Ok
returns-in-Ok g c = record { answer = Ok tt; does = c.in-Ok.ensures.does; fault = c.in-Ok.ensures.fault; cause = c.in-Ok.ensures.refused; tells = refl }

pub returns-in-Memory : goal.returns-in-Memory
returns-in-Memory g c = record { answer = Err faults.Memory; does = c.in-Err.ensures.does; fault = inr refl; cause = λ clean told. absurd (let wrong = told in cc); tells = c.after.ensures }

-- what is left beside memory
is_store : (fault : Fault) → (fault ≡ faults.Store) ⊎ (fault ≡ faults.Memory) → (fault ≡ faults.Memory → ⊥) → fault ≡ faults.Store
is_store fault (inl store) other = store
is_store fault (inr memory) other = absurd (other memory)

pub returns-in_default : goal.returns-in_default
returns-in_default g c =
    let store = is_store c.in-Err.fault c.in-Err.ensures.fault c.in_default.not-Memory in
    record { answer = Err faults.Store; does = c.in-Err.ensures.does; fault = inl refl; cause = λ clean told. c.in-Err.ensures.refused clean (ap Err store); tells = c.after-in_default.ensures }
