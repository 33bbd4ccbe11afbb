use Rattle.std.proofs.Common.{◌≡◌, ◌++◌, map, drop, string_bytes}
use Rattle.shell_text.specs.Print.{wider}
use Rattle.shell_text.proofs.print.wider.Given as goal

abbrev pub invariant-loop-i : goal.invariant-loop-i
invariant-loop-i l = l.wide.items ++ wider (drop l.i l.widths) (map string_bytes (drop l.i l.row)) ≡ wider l.widths (map string_bytes l.row)
