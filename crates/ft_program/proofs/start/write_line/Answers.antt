-- whole, or a front of it
use Rattle.ft_program.proofs.InputLemmas.{up_to_sent}
use Rattle.ft_program.proofs.start.write_line.Goals as goal

pub returns : goal.returns
returns g c = up_to_sent c.send.result (g.W.Write.contents c.args.to.now) (g.W.Write.contents c.send.new.to) c.args.line.now c.send.ensures
