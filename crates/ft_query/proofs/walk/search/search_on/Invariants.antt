use Rattle.std.proofs.Common.{◌≡◌, ◌≤◌, List, [], length, map, sum_by}
use Rattle.ft_query.proofs.Common.{Document, lists_left, lists_kept, StandsBefore, Went, walk_at}
use Rattle.ft_query.proofs.walk.search.search_on.Given as goal

-- no hit so far
abbrev pub invariant-loop-docid : goal.invariant-loop-docid
invariant-loop-docid l = record {
  kept : map lists_kept l.cursors ≡ map lists_kept l.fn.cursors;
  number : length l.cursors ≡ length l.fn.cursors;
  rise : l.fn.steps.taken ≤ l.steps.taken;
  fewer : sum_by length (map lists_left l.cursors) ≤ sum_by length (map lists_left l.fn.cursors);
  went : (documents : List Document) → StandsBefore (walk_at l.fn.query l.fn.cursors l.fn.steps.taken) documents
      → Went (walk_at l.fn.query l.fn.cursors l.fn.steps.taken) (walk_at l.fn.query l.cursors l.steps.taken) [] documents;
}

abbrev pub decreases-loop-docid : goal.decreases-loop-docid
decreases-loop-docid l = sum_by length (map lists_left l.cursors)
