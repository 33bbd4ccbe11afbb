use Rattle.std.proofs.Common.{◌≡◌, ◌++◌, [], ◌∷◌, drop}
use Rattle.ft_rows.proofs.Common.{flat_map, leb128, numbers_after}
use Rattle.ft_rows.proofs.packed.push_spot.Given as goal

abbrev pub invariant-loop-number : goal.invariant-loop-number
invariant-loop-number l = l.bytes.items ++ flat_map leb128 (drop l.number-index l.number-items) ≡ l.initial.bytes.items ++ flat_map leb128 (numbers_after l.last (l.spot ∷ []))
