-- what is left decides
use Rattle.std.proofs.Common.{◌≡◌, map, drop}
use Rattle.ft_content.specs.Content as content
use Rattle.ft_content.proofs.names.repeats_behind.Given as goal

abbrev pub invariant-loop-k : goal.invariant-loop-k
invariant-loop-k g l = content.repeats_name (map g.T.Named.name_of (drop l.k l.named)) ≡ content.repeats_name (map g.T.Named.name_of l.named)
