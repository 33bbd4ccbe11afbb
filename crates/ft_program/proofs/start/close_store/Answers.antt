-- the last commit is what the store holds
use Rattle.std.proofs.Common.{Ok, Err, subst}
use Rattle.sqlite_disk.specs.declared.Disk.{Ghosts}
use Rattle.sqlite_store.specs.declared.store.FileStore.{FileStore}
use Rattle.sqlite.specs.Files.{over_files}
use Rattle.sqlite.specs.Held.{Held}
use Rattle.ft_store.specs.Kept.{AreCommitted, StoreState}
use Rattle.ft_files.specs.Hosts.{IsLeft}
use Rattle.ft_program.specs.Closed.{Closed, IsStoreLeft}
use Rattle.ft_program.proofs.start.close_store.Goals as goal

store_left : {D : Type 0} {g : Ghosts D} (s : StoreState (FileStore D g)) (result : Closed D) → AreCommitted over_files s → IsLeft s.held result → IsStoreLeft s result
store_left s (Ok files) committed left = λ clean. let it = left clean in (it, committed.stored it.was_clean it.was_open)
store_left s (Err files) committed left = left

pub returns : goal.returns
returns g c = store_left c.args.store c.close_one.result c.into_connection.ensures.committed
    (subst (λ (held : Held _). IsLeft held c.close_one.result) c.into_connection.ensures.held c.close_one.ensures)
