use Rattle.std.proofs.Common.{◌≡◌, ◌++◌, map, take}
use Rattle.std.specs.List.{flat_map}
use Rattle.shell_text.specs.Print.{bytes_of, in_columns}
use Rattle.shell_text.proofs.print.push_rows.Given as goal

abbrev pub invariant-loop-row : goal.invariant-loop-row
invariant-loop-row l = l.text.items ≡ l.initial.text.items ++ flat_map (in_columns l.widths) (map bytes_of (take l.row-index l.rows))
