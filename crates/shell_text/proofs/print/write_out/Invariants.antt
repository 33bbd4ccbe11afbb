use Rattle.std.proofs.Common.{◌≤◌, length, take}
use Rattle.std.specs.Io.KnownBytes.{Appends}
use Rattle.shell_text.proofs.print.write_out.Given as goal

-- the front that went out
abbrev pub invariant-loop : goal.invariant-loop
invariant-loop g l = record { within : l.sent ≤ length l.text; gone : Appends (g.W.Write.contents l.initial.out) (g.W.Write.contents l.out) (take l.sent l.text) }
