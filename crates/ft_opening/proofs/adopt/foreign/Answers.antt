use Rattle.std.proofs.Common.{◌≡◌, rules, inr}
use Rattle.ft_store.specs.declared.fault.StoreFault.TheVariants as fault
use Rattle.ft_opening.specs.Adopted.{rows_cause}
use Rattle.ft_opening.proofs.adopt.foreign.Goals as goal

pub returns-in-Ok-clause-refused : goal.returns-in-Ok-clause-refused
returns-in-Ok-clause-refused g c = λ clean is.
    let same : rows_cause c.in-Ok.rows.items ≡ fault.Refused = search rules in
    inr (inr (c.in-Ok.rows, c.in-Ok.ensures.told clean, same))
