use Rattle.std.proofs.Common.{◌≡◌, ◌++◌, map, take}
use Rattle.ft_store.proofs.Common.{shown_entry}
use Rattle.ft_store.proofs.lists.push_entries.Given as goal

abbrev pub invariant-loop-spot : goal.invariant-loop-spot
invariant-loop-spot l = map shown_entry l.entries.items ≡ map shown_entry l.initial.entries.items ++ map (λ s. (l.term, l.list.docid, s)) (take l.spot-index l.list.spots.items)
