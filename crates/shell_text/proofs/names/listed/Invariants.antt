use Rattle.std.proofs.Common.{◌≡◌, ◌-◌, ◌++◌, map, string_bytes}
use Rattle.shell_text.specs.Print.{names_in_columns, names_lines}
use Rattle.shell_text.proofs.names.listed.Given as goal

abbrev pub invariant-loop-j : goal.invariant-loop-j
invariant-loop-j l = l.text.items ++ names_lines (l.down - l.j) l.j (map string_bytes l.names) ≡ names_in_columns (map string_bytes l.names)
