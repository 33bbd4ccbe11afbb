-- the names so far, none of which stands twice
use Rattle.std.proofs.Common.{◌≡◌, false, map, take}
use Rattle.ft_content.proofs.Common.{HasLowercase}
use Rattle.ft_content.specs.Content as content
use Rattle.ft_content.proofs.names.repeats_in_set.Given as goal

abbrev pub invariant-loop-one : goal.invariant-loop-one
invariant-loop-one g l = HasLowercase l.small (map g.T.Named.name_of (take l.one-index l.named)) × (content.repeats_name (map g.T.Named.name_of (take l.one-index l.named)) ≡ false)
