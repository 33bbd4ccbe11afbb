-- whole, or a front of it
use Rattle.std.proofs.Common.{subst}
use Rattle.shell_io.specs.Writing.{Sends}
use Rattle.ft_program.proofs.InputLemmas.{text_sent}
use Rattle.ft_program.proofs.start.send.Goals as goal

pub returns : goal.returns
returns g c =
    let a = g.W.Write.contents c.args.to.now in
    let b = g.W.Write.contents c.write_out.new.out in
    subst (Sends c.write_out.result a b) c.as_bytes.ensures.value (text_sent c.write_out.result a b c.as_bytes.result.now c.write_out.ensures.ok c.write_out.ensures.err)
