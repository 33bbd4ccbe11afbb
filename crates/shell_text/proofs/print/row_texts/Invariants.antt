use Rattle.std.proofs.Common.{◌≡◌, map, take, string_bytes}
use Rattle.shell_text.specs.Print.{printed_cell, value_of_cell}
use Rattle.shell_text.proofs.print.row_texts.Given as goal

abbrev pub invariant-loop-cell : goal.invariant-loop-cell
invariant-loop-cell l = map string_bytes l.texts.items ≡ map (λ cell. printed_cell l.settings (value_of_cell cell)) (take l.cell-index l.row)
