use Rattle.std.proofs.Common.{◌≡◌, ◌-◌, ◌^◌, min, take}
use Rattle.ft_store.specs.Expected.{posting_count}
use Rattle.ft_store.proofs.expected.count_places.Given as goal

abbrev pub invariant-loop-term : goal.invariant-loop-term
invariant-loop-term l = l.count ≡ min (posting_count (take l.term-index l.terms)) (2 ^ 64 - 1)
