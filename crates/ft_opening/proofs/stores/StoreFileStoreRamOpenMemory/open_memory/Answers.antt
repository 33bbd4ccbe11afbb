use Rattle.std.proofs.Common.{refl}
use Rattle.ft_opening.proofs.Common.{IfOk-weaker}
use Rattle.ram_disk.specs.Clean.{never_lies_is_clean}
use Rattle.ft_opening.proofs.stores.StoreFileStoreRamOpenMemory.open_memory.Goals as goal

pub returns-clause-empty : goal.returns-clause-empty
returns-clause-empty c = IfOk-weaker c.begun.result _ _ (λ store made. (made (never_lies_is_clean (λ _. refl) store.held)).1) c.begun.ensures.empty

pub returns-clause-clean : goal.returns-clause-clean
returns-clause-clean c = IfOk-weaker c.begun.result _ _ (λ store made. never_lies_is_clean (λ _. refl) store.held) c.begun.ensures.empty

pub returns-clause-up : goal.returns-clause-up
returns-clause-up c = IfOk-weaker c.begun.result _ _ (λ store up. up (never_lies_is_clean (λ _. refl) store.held)) c.begun.ensures.up
