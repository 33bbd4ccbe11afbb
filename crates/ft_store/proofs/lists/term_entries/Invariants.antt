use Rattle.std.proofs.Common.{◌≡◌, map, take, flat_map}
use Rattle.ft_store.proofs.Common.{shown_list, shown_entry, entries_with}
use Rattle.ft_store.proofs.lists.term_entries.Given as goal

abbrev pub invariant-loop-list : goal.invariant-loop-list
invariant-loop-list l = map shown_entry l.entries.items ≡ flat_map (entries_with l.term) (map shown_list (take l.list-index l.lists))
