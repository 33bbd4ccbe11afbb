-- one part more
use Rattle.std.proofs.Common.{sym, subst}
use Rattle.std.specs.List.{flat_map}
use Rattle.std.specs.Io.KnownBytes.{Appends}
use Rattle.std.proofs.lemmas.List.{take_all}
use Rattle.shell_io.specs.Writing.{AppendsUpTo}
use Rattle.shell_io.proofs.WriteLemmas.{appends_then, parts_more, parts_split, sends_err, up_to_more, up_to_then}
use Rattle.shell_io.proofs.written.write_parts.Goals as goal

pub returns-in_err-write_bytes : goal.returns-in_err-write_bytes
returns-in_err-write_bytes g c =
    let a = g.W.Write.contents c.args.to.now in
    let b = g.W.Write.contents c.loop-part.to in
    let d = g.W.Write.contents c.write_bytes.new.to in
    sends_err _ c.from_residual.result a d _ c.from_residual.ensures.1
    (subst (AppendsUpTo a d) (parts_split c.args.parts.now c.loop-part.part-index _ c.as_bytes.result.now c.loop-part-test.true c.as_bytes.ensures.value)
    (up_to_then a b d _ _ c.loop-part.invariant (up_to_more b d c.as_bytes.result.now _ c.in_err-write_bytes.ensures)))

pub returns : goal.returns
returns g c =
    subst (λ parts. Appends (g.W.Write.contents c.args.to.now) (g.W.Write.contents c.loop-part.to) (flat_map (λ part. part.now) parts))
    (take_all c.loop-part.part-index c.args.parts.now c.loop-part-test.false) c.loop-part.invariant

pub loop-part-preserved : goal.loop-part-preserved
loop-part-preserved g c =
    let a = g.W.Write.contents c.args.to.now in
    let b = g.W.Write.contents c.loop-part.to in
    let d = g.W.Write.contents c.write_bytes.new.to in
    subst (Appends a d) (sym (parts_more c.args.parts.now c.loop-part.part-index _ c.as_bytes.result.now c.loop-part-test.true c.as_bytes.ensures.value))
    (appends_then a b d _ c.as_bytes.result.now c.loop-part.invariant c.in_ok-write_bytes.ensures)
