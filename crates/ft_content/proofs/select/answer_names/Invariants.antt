-- the names so far
use Rattle.std.proofs.Common.{◌≡◌, map, take}
use Rattle.ft_content.proofs.Common.{flat_map, bare_content, item_of, texts_of}
use Rattle.ft_content.specs.Answer as answer
use Rattle.ft_content.proofs.select.answer_names.Given as goal

abbrev pub invariant-loop-item : goal.invariant-loop-item
invariant-loop-item l = texts_of l.names ≡ flat_map (answer.item_headers l.table (bare_content l.columns)) (map item_of (take l.item-index l.item-items))
