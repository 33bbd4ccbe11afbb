use Rattle.std.proofs.Common.{◌≡◌, map}
use Rattle.ft_query.proofs.Common.{lists_left, lists_kept, passed, TakesSteps}
use Rattle.ft_query.proofs.Sweeps.{swept}
use Rattle.ft_query.proofs.walk.search.pass.Given as goal

-- the lists so far are passed, and the others as they were
abbrev pub invariant-loop-cursor : goal.invariant-loop-cursor
invariant-loop-cursor l = record {
  left : map lists_left l.cursors ≡ swept (passed l.docid) l.cursor-index (map lists_left l.fn.cursors);
  kept : map lists_kept l.cursors ≡ map lists_kept l.fn.cursors;
  steps : TakesSteps l.cursor-index l.fn.steps l.steps;
}
