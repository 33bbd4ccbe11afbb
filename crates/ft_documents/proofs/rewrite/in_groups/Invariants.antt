-- whole groups, each small, and one that isn't full
use Rattle.std.proofs.Common.{◌≡◌, ◌++◌, ◌<◌, All, map, sum_by, vec_items, flat_map}
use Rattle.ft_documents.proofs.Common.{shown_rewrite, rewrite_bytes, IsSmall}
use Rattle.ft_documents.proofs.rewrite.in_groups.Given as goal

abbrev pub invariant-loop-rewrite : goal.invariant-loop-rewrite
invariant-loop-rewrite l = record {
  whole : flat_map vec_items l.groups.items ++ l.group.items ≡ l.yielded;
  small : All (λ group. IsSmall (map shown_rewrite group.items)) l.groups.items;
  bytes : l.bytes ≡ sum_by rewrite_bytes (map shown_rewrite l.group.items);
  fits : l.bytes < 524288;
}
