use Rattle.std.proofs.Common.{◌≡◌, ◌++◌}
use Rattle.ft_rows.proofs.Common.{leb128}
use Rattle.ft_rows.proofs.packed.push_number.Given as goal

abbrev pub invariant-loop-rest : goal.invariant-loop-rest
invariant-loop-rest l = l.bytes.items ++ leb128 l.rest ≡ l.initial.bytes.items ++ leb128 l.fn.number

abbrev pub decreases-loop-rest : goal.decreases-loop-rest
decreases-loop-rest l = l.rest
