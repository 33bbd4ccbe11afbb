-- a front of the bytes went out
use Rattle.shell_io.proofs.WriteLemmas.{up_to_part}
use Rattle.shell_io.proofs.written.write_bytes.Goals as goal

pub returns-in-Err : goal.returns-in-Err
returns-in-Err g c = up_to_part (g.W.Write.contents c.args.to.now) (g.W.Write.contents c.write_out.new.out) c.args.bytes.now c.in-Err.ensures.err
