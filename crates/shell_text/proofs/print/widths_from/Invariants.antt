use Rattle.std.proofs.Common.{◌≡◌, map, drop}
use Rattle.shell_text.specs.Print.{bytes_of, widths_from}
use Rattle.shell_text.proofs.print.widths_from.Given as goal

abbrev pub invariant-loop-row : goal.invariant-loop-row
invariant-loop-row l = widths_from l.widths.items (map bytes_of (drop l.row-index l.rows)) ≡ widths_from l.fn.first.items (map bytes_of l.rows)
