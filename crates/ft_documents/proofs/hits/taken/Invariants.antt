use Rattle.std.proofs.Common.{◌≡◌, ◌≤◌, ◌++◌, List, map, vec_len}
use Rattle.ft_query.specs.Walk.{StandsBefore, lists_to_come}
use Rattle.ft_documents.proofs.Common.{Document, tree_of, plain_hit, hits_of, as_wanted}
use Rattle.ft_documents.proofs.hits.taken.Given as goal

-- the hits so far are the first ones, and the walk stands before the rest
abbrev pub invariant-loop-alloc : goal.invariant-loop-alloc
invariant-loop-alloc l = record {
  query : l.walk.query ≡ l.fn.walk.query;
  room : vec_len l.hits ≤ l.most;
  rest : (documents : List Document) → StandsBefore l.fn.walk documents →
      (rest : List Document) × StandsBefore l.walk rest × (map (as_wanted l.wants_offsets) (hits_of (tree_of l.fn.walk.query) documents) ≡ map plain_hit l.hits.items ++ map (as_wanted l.wants_offsets) (hits_of (tree_of l.fn.walk.query) rest));
}

abbrev pub decreases-loop-alloc : goal.decreases-loop-alloc
decreases-loop-alloc l = lists_to_come l.walk
