-- the parts so far went out
use Rattle.std.proofs.Common.{take}
use Rattle.std.specs.List.{flat_map}
use Rattle.std.specs.Io.KnownBytes.{Appends}
use Rattle.shell_io.proofs.written.write_parts.Given as goal

abbrev pub invariant-loop-part : goal.invariant-loop-part
invariant-loop-part g l = Appends (g.W.Write.contents l.initial.to) (g.W.Write.contents l.to) (flat_map (λ part. part.now) (take l.part-index l.parts))
