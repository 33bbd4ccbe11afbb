use Rattle.std.proofs.Common.{◌≡◌, Err, rules}
use Rattle.ft_store.specs.Calls.{fault_of_read}
use Rattle.ft_store.specs.declared.fault.StoreFault.TheVariants as causes
use Rattle.ft_index.proofs.Doing.{is_refused, plain_if}
use Rattle.ft_index.proofs.tables.change_rows.Goals as goal

pub returns-in_err-change-clause-refused : goal.returns-in_err-change-clause-refused
returns-in_err-change-clause-refused g c = λ can clean told.
    let fault = c.in_err-change.field-0.0 in
    let is : c.from_residual.result ≡ Err (fault_of_read fault) = search rules in
    let why = is_refused fault c.from_residual.result is (plain_if c.args.changes.now fault can (search rules)) told in
    let refused : c.change.result ≡ Err causes.Refused = search rules in
    c.change.ensures.refused clean refused
