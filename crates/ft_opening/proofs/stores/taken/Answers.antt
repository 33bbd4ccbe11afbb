use Rattle.std.proofs.Common.{rules}
use Rattle.ft_opening.proofs.Common.{IfErr-weaker}
use Rattle.ft_opening.specs.Adopted.{IsNotTaken}
use Rattle.ft_opening.proofs.stores.taken.Goals as goal

pub returns-in_err-take-clause-refused : goal.returns-in_err-take-clause-refused
returns-in_err-take-clause-refused g c =
    IfErr-weaker c.from_residual.result (IsNotTaken g.S.Store c.args.conn c.take.new.conn) _ (λ cause left. record { new = c.take.new.conn; refused = left; left = c.take.ensures.crash }) (search rules)
