use Rattle.std.proofs.Common.{arith}
use Rattle.ft_rows.proofs.ReadLemmas.{ends_number, begins_number, no_numbers, upper_of}
use Rattle.ft_rows.proofs.packed.first_number.Goals as goal

pub returns-in_err-low-clause-none : goal.returns-in_err-low-clause-none
returns-in_err-low-clause-none c = rw c.from_residual.ensures (λ n ns is. absurd (no_numbers c.args.bytes.now n ns c.in_err-low.ensures is))

pub returns-then-low-lt128-clause-found : goal.returns-then-low-lt128-clause-found
returns-then-low-lt128-clause-found c = ends_number c.args.bytes.now c.in_ok-low.rest.now c.in_ok-low.low c.in_ok-low.ensures.0 (omega arith)

pub returns-in_err-upper-clause-none : goal.returns-in_err-upper-clause-none
returns-in_err-upper-clause-none c = rw c.from_residual-in_err-upper.ensures (λ n ns is.
    let upper = upper_of c.args.bytes.now c.in_ok-low.rest.now c.in_ok-low.low n ns c.in_ok-low.ensures.0 (omega arith) is in
    let great = c.in_err-upper.ensures.none upper.0 upper.1 upper.2 in
    omega (arith, great, upper.3))

pub returns-clause-found : goal.returns-clause-found
returns-clause-found c = begins_number c.args.bytes.now c.in_ok-low.rest.now c.in_ok-upper.rest.now c.in_ok-low.low c.in_ok-upper.upper c.in_ok-low.ensures.0 (omega arith) c.in_ok-upper.ensures.found.0 c.in_ok-upper.ensures.found.2
