use Rattle.std.proofs.Common.{◌≤◌, ◌+◌, length, arith, take, drop, subst}
use Rattle.std.specs.Io.KnownBytes.{Appends}
use Rattle.std.proofs.lemmas.List.{length-drop}
use Rattle.shell_text.proofs.Writing.{appends_keeps, appends_more, rest_of}
use Rattle.shell_text.proofs.print.write_out.Goals as goal
use Rattle.shell_text.proofs.print.write_out.Goals.{in-Ok, in-Err}

pub loop-preserved : goal.loop-preserved
loop-preserved g c =
    let text = c.args.text.now in
    let contents = g.W.Write.contents in
    elim c.match-write.branch [
      | in-Ok w ↦
          let fits : w.in-Ok.n ≤ length (drop c.loop.sent text) = subst (λ t. w.in-Ok.n ≤ length t) (rest_of c.loop.sent text) w.in-Ok.ensures.bound in
          let within : c.loop.sent + w.in-Ok.n ≤ length text = let had = c.loop.invariant.within in omega (arith, length-drop c.loop.sent text) in
          rw (w.sent-is)
          (record {
            within = within;
            gone = appends_more (contents c.args.out.now) (contents c.loop.out) (contents c.write.new.self) c.loop.sent w.in-Ok.n text c.loop.invariant.gone
                (subst (λ t. Appends (contents c.loop.out) (contents c.write.new.self) (take w.in-Ok.n t)) (rest_of c.loop.sent text) w.in-Ok.ensures.bytes);
          })
      | in-Err w ↦
          rw (w.sent-is)
          (record {
            within = c.loop.invariant.within;
            gone = appends_keeps (contents c.args.out.now) (contents c.loop.out) (contents c.write.new.self) (take c.loop.sent text) c.loop.invariant.gone w.in-Err.ensures.bytes;
          })
    ]
