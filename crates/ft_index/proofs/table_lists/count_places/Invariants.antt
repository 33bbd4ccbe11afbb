use Rattle.std.proofs.Common.{◌≡◌, ◌-◌, ◌^◌, map, min, take}
use Rattle.ft_query.specs.Lists.{plain_list}
use Rattle.ft_match.specs.Documents.{place_count}
use Rattle.ft_index.proofs.table_lists.count_places.Given as goal

abbrev pub invariant-loop-list : goal.invariant-loop-list
invariant-loop-list l = l.count ≡ min (place_count (map plain_list (take l.list-index l.lists))) (2 ^ 64 - 1)
