use Rattle.std.proofs.Common.{◌≡◌, ◌++◌, drop}
use Rattle.ft_rows.proofs.Common.{flat_map, leb128, numbers_after, packed}
use Rattle.ft_rows.proofs.packed.pack.Given as goal

abbrev pub invariant-loop-spot : goal.invariant-loop-spot
invariant-loop-spot l = l.bytes.items ++ flat_map leb128 (numbers_after l.last ((drop l.spot-index l.spots))) ≡ packed l.spots
