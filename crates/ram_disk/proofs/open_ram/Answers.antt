use Rattle.std.proofs.Common.{refl}
use Rattle.ram_disk.specs.Clean.{never_lies_is_clean}
use Rattle.ram_disk.proofs.Empty.{opened_empty}
use Rattle.ram_disk.proofs.Refused.{lacks_memory}
use Rattle.ram_disk.proofs.open_ram.Goals as goal

pub returns-in-Ok-clause-empty : goal.returns-in-Ok-clause-empty
returns-in-Ok-clause-empty c =
    let clean = never_lies_is_clean (λ _. refl) c.in-Ok.conn in
    (opened_empty _ c.in-Ok.conn c.new-log.ensures.bytes c.new-db.ensures.bytes (c.in-Ok.ensures.opened clean) (c.in-Ok.ensures.found clean)).0

pub returns-in-Ok-clause-bare : goal.returns-in-Ok-clause-bare
returns-in-Ok-clause-bare c =
    let clean = never_lies_is_clean (λ _. refl) c.in-Ok.conn in
    (opened_empty _ c.in-Ok.conn c.new-log.ensures.bytes c.new-db.ensures.bytes (c.in-Ok.ensures.opened clean) (c.in-Ok.ensures.found clean)).1

pub returns-in-Ok-clause-clean : goal.returns-in-Ok-clause-clean
returns-in-Ok-clause-clean c = never_lies_is_clean (λ _. refl) c.in-Ok.conn

pub returns-in-Ok-clause-shielded : goal.returns-in-Ok-clause-shielded
returns-in-Ok-clause-shielded c = c.in-Ok.ensures.guarded (never_lies_is_clean (λ _. refl) c.in-Ok.conn)

pub returns-clause-memory : goal.returns-clause-memory
returns-clause-memory c = lacks_memory (λ _. refl) (λ _. refl) (record { log = c.new-log.result; db = c.new-db.result }) c.in-Err.field-0-1 _ c.new-db.ensures.bytes c.in-Err.ensures.cause
