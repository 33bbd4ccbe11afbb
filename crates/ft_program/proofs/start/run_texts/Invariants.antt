-- the texts so far were run to their ends, on the same writers
use Rattle.std.proofs.Common.{map, drop, Some, string_bytes}
use Rattle.shell_io.specs.Writing.{SameWriters}
use Rattle.ft_program.proofs.InputLemmas.{SoFar}
use Rattle.ft_program.proofs.start.run_texts.Given as goal

abbrev pub invariant-loop-text : goal.invariant-loop-text
invariant-loop-text g l =
    SoFar g.P.Store g.S.Store (map Some (map string_bytes l.inputs)) (map Some (map string_bytes (drop l.text-index l.inputs)))
    (record { parts = l.fn.session; on = record { out = g.O.Write.contents l.fn.outputs.out.now; err = g.E.Write.contents l.fn.outputs.err.now } })
    (record { parts = l.session; on = record { out = g.O.Write.contents l.outputs.out.now; err = g.E.Write.contents l.outputs.err.now } }) l.faults
    × SameWriters l.fn.outputs l.outputs
