-- two empty databases
use Rattle.std.proofs.Common.{inl, refl}
use Rattle.ram_disk.specs.contracts.disk.RamDisk.TheImpl.{ghosts}
use Rattle.ram_disk.specs.Clean.{never_lies_is_clean}
use Rattle.ft_program.proofs.MemoryLemmas.{from_nothing}
use Rattle.ft_program.proofs.start.in_memory.Goals as goal

pub returns-in-Ok-clause-runs : goal.returns-in-Ok-clause-runs
returns-in-Ok-clause-runs g c = from_nothing ghosts c.args.work.settings c.in-Ok.plain c.in-Ok.store c.on_databases-ended.result.1 c.on_databases-ended.result.2 _ _ _ c.on_databases-ended.result.0 (λ store. never_lies_is_clean (λ _. refl) store.held) c.in-Ok.ensures c.on_databases-ended.ensures.runs

pub returns-in-Err-clause-runs : goal.returns-in-Err-clause-runs
returns-in-Err-clause-runs g c = inl (c.in-Err.fault, c.in-Err.ensures.refused, record { out = refl; err = c.tell.ensures.line; ends = c.tell.ensures.status })
