use Rattle.std.proofs.Common.{◌≡◌, ◌++◌, map, drop, string_bytes}
use Rattle.shell_text.specs.Print.{in_columns}
use Rattle.shell_text.proofs.print.push_columns.Given as goal

-- what is made, and then what is left
abbrev pub invariant-loop-i : goal.invariant-loop-i
invariant-loop-i l = l.text.items ++ in_columns (drop l.i l.widths) (map string_bytes (drop l.i l.fields)) ≡ l.initial.text.items ++ in_columns l.widths (map string_bytes l.fields)
