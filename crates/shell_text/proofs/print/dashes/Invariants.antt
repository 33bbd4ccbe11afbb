use Rattle.std.proofs.Common.{◌≡◌, replicate, string_bytes}
use Rattle.shell_text.proofs.print.dashes.Given as goal

abbrev pub invariant-loop : goal.invariant-loop
invariant-loop l = string_bytes l.text ≡ replicate l.counter 0x2D
