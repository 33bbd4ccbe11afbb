use Rattle.std.proofs.Common.{◌≡◌, map, take}
use Rattle.shell_text.specs.Print.{bytes_of, printed_cell, value_of_cell}
use Rattle.shell_text.proofs.print.rows_texts.Given as goal

abbrev pub invariant-loop-row : goal.invariant-loop-row
invariant-loop-row l = map bytes_of l.texts.items ≡ map (λ row. map (λ cell. printed_cell l.settings (value_of_cell cell)) row.items) (take l.row-index l.rows)
