use Rattle.std.proofs.Common.{◌≡◌, ◌++◌, take, string_bytes}
use Rattle.std.specs.List.{join_by}
use Rattle.shell_text.specs.Print.{printed_cell, value_of_cell}
use Rattle.shell_text.proofs.print.push_row.Given as goal

abbrev pub invariant-loop-i : goal.invariant-loop-i
invariant-loop-i l = string_bytes l.text ≡ string_bytes l.fn.text ++ join_by (λ cell. printed_cell l.settings (value_of_cell cell)) l.settings.separator (take l.i l.row)
