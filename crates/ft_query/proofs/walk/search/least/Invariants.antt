use Rattle.std.proofs.Common.{◌≡◌, map, None, drop}
use Rattle.ft_query.proofs.Common.{lists_left, least_from, LooksAtAll}
use Rattle.ft_query.proofs.walk.search.least.Given as goal

-- the least so far and in the lists that are left is the least of all
abbrev pub invariant-loop-cursor : goal.invariant-loop-cursor
invariant-loop-cursor l = record {
  docid : least_from l.docid (map lists_left (drop l.cursor-index l.cursors)) ≡ least_from None (map lists_left l.cursors);
  steps : LooksAtAll l.cursor-index l.docid l.fn.steps l.steps;
}
