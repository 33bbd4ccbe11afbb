use Rattle.std.proofs.Common.{rules}
use Rattle.ft_store.proofs.BlameLemmas.{broken_keeps}
use Rattle.ft_store.proofs.statements.add.Goals as goal

pub returns-in-Err-SqliteFailure-ConstraintViolation-clause-done : goal.returns-in-Err-SqliteFailure-ConstraintViolation-clause-done
returns-in-Err-SqliteFailure-ConstraintViolation-clause-done g c =
    let broken = c.in-Err-SqliteFailure-ConstraintViolation in
    record { steps = λ clean inside. broken_keeps _ _ _ _ broken.field-0-0-0 ((rw (broken.field-0-is, broken.field-0-0-is) at broken.ensures.runs) clean inside); stays = search rules }

pub returns-in-Err-clause-done : goal.returns-in-Err-clause-done
returns-in-Err-clause-done g c = record { steps = λ clean inside. tt; stays = record { same_reference = search rules; kept = search rules; survives = search rules; fault = search rules } }
