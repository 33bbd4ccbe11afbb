use Rattle.std.proofs.Common.{◌≡◌, length, map, take}
use Rattle.shell_text.specs.Splitting.{member_of_unit}
use Rattle.shell_text.proofs.ReadOn.{ReadTo}
use Rattle.shell_text.proofs.units.read_on.Given as goal

-- what is told and kept so far, and that the units that waited are still there
abbrev pub invariant-loop-i : goal.invariant-loop-i
invariant-loop-i l = record {
  read : ReadTo l.fn.pending.first l.bytes (map member_of_unit l.initial.waiting.items) (map member_of_unit l.waiting.items) l.cut l.i l.p;
  waited : take (length l.initial.waiting.items) l.waiting.items ≡ l.initial.waiting.items;
}
