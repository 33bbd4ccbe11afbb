use Rattle.std.proofs.Common.{◌≡◌, ◌++◌, replicate}
use Rattle.shell_text.proofs.print.push_times.Given as goal

abbrev pub invariant-loop : goal.invariant-loop
invariant-loop l = l.text.items ≡ l.initial.text.items ++ replicate l.counter l.byte
