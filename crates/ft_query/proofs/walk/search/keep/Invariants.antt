use Rattle.std.proofs.Common.{◌≡◌, map}
use Rattle.ft_query.proofs.Sweeps.{swept, both_lists, as_left}
use Rattle.ft_query.proofs.walk.search.keep.Given as goal

-- the cursors so far stand where the search is
abbrev pub invariant-loop-cursor : goal.invariant-loop-cursor
invariant-loop-cursor l = map both_lists l.cursors ≡ swept as_left l.cursor-index (map both_lists l.fn.cursors)
