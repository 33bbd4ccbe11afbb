use Rattle.std.proofs.Common.{◌≡◌, map, take, flat_map}
use Rattle.ft_store.proofs.Common.{bound}
use Rattle.ft_store.specs.Groups.{entry_values, entry_put}
use Rattle.ft_store.proofs.write.list_values.Given as goal

abbrev pub invariant-loop-at : goal.invariant-loop-at
invariant-loop-at l = bound l.values.items ≡ flat_map entry_values (map entry_put (take l.at l.changes))
