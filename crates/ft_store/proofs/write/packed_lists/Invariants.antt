use Rattle.std.proofs.Common.{◌≡◌, map, take, All, vec_items}
use Rattle.ft_store.specs.Groups.{entry_put, PutsList}
use Rattle.ft_store.proofs.write.packed_lists.Given as goal

abbrev pub invariant-loop-change : goal.invariant-loop-change
invariant-loop-change l = All PutsList (take l.change-index l.changes) × (map vec_items l.lists.items ≡ map (λ c. (entry_put c).1) (take l.change-index l.changes))
