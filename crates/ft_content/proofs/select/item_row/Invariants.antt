-- the cells so far
use Rattle.std.proofs.Common.{◌≡◌, map, take}
use Rattle.ft_content.proofs.Common.{flat_map, shown_value, bare_content, item_of, cells_of}
use Rattle.ft_values.specs.Cells as stored
use Rattle.ft_content.specs.Answer as answer
use Rattle.ft_content.proofs.select.item_row.Given as goal

abbrev pub invariant-loop-item : goal.invariant-loop-item
invariant-loop-item l = cells_of l.row ≡ flat_map (answer.cells_with (stored.Text l.offsets) (bare_content l.columns) (l.docid, map shown_value l.cells)) (map item_of (take l.item-index l.items))
