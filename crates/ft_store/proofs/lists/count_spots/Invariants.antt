use Rattle.std.proofs.Common.{◌≡◌, ◌-◌, ◌^◌, map, min, take}
use Rattle.ft_store.proofs.Common.{shown_list, spot_count}
use Rattle.ft_store.proofs.lists.count_spots.Given as goal

abbrev pub invariant-loop-list : goal.invariant-loop-list
invariant-loop-list l = l.count ≡ min (spot_count (map shown_list (take l.list-index l.lists))) (2 ^ 64 - 1)
