use Rattle.std.proofs.Common.{◌≡◌, map}
use Rattle.ft_query.proofs.Sweeps.{swept, both_lists, as_kept}
use Rattle.ft_query.proofs.walk.search.begin.Given as goal

-- the cursors so far begin anew
abbrev pub invariant-loop-cursor : goal.invariant-loop-cursor
invariant-loop-cursor l = map both_lists l.cursors ≡ swept as_kept l.cursor-index (map both_lists l.fn.cursors)
