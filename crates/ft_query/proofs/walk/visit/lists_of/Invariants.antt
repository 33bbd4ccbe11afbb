use Rattle.std.proofs.Common.{◌≡◌, take}
use Rattle.ft_query.proofs.Common.{plain_lists, places_in, TakesSteps}
use Rattle.ft_query.proofs.walk.visit.lists_of.Given as goal

abbrev pub invariant-loop-cursor : goal.invariant-loop-cursor
invariant-loop-cursor l = (plain_lists l.lists.items ≡ places_in l.docid (take l.cursor-index l.cursors)) × TakesSteps l.cursor-index l.initial.steps l.steps
