use Rattle.std.proofs.Common.{rules, sym}
use Rattle.ft_opening.proofs.SameLemmas.{one_key}
use Rattle.ft_opening.proofs.same.is_keyed.Goals as goal

pub returns-then-eq : goal.returns-then-eq
returns-then-eq c = rw (sym c.as_slice.ensures) (rw (sym c.as_slice-2.ensures) (one_key c.as_slice.result.now c.as_slice-2.result.now c.args.key.now c.unique-item.result c.args.digits _ (search rules) (search rules) (search rules) (search rules) (search rules) c.unique-item.is (search rules)))
