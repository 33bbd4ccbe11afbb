-- the tests of all places are those of the places to come
use Rattle.std.proofs.Common.{◌≡◌, true, drop, ◌==◌}
use Rattle.ft_rows.proofs.Common.{origin}
use Rattle.ft_rows.proofs.PackTests.{tests}
use Rattle.ft_rows.proofs.packed.can_pack.Given as goal

abbrev pub invariant-loop-at : goal.invariant-loop-at
invariant-loop-at l = tests true origin l.spots ≡ tests (l.at == 0) l.last (drop l.at l.spots)
