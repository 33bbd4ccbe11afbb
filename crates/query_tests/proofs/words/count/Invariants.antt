use Rattle.std.proofs.Common.{◌≡◌, ◌-◌, ◌^◌, map, min}
use Rattle.std.specs.Prelude.{take}
use Rattle.ft_query.specs.Lists.{plain_list}
use Rattle.ft_match.specs.Documents.{place_count}
use Rattle.query_tests.proofs.words.count.Given as goal

abbrev pub invariant-loop-list : goal.invariant-loop-list
invariant-loop-list l = l.places ≡ min (place_count (map plain_list (take l.list-index l.lists))) (2 ^ 64 - 1)
