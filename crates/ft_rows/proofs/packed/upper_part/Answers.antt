use Rattle.std.proofs.Common.{arith}
use Rattle.ft_rows.proofs.ReadLemmas.{ends_number, begins_number, no_numbers, number_is, upper_of}
use Rattle.ft_rows.proofs.packed.upper_part.Goals.{then-high-eq0-via-then-high-eq0, then-high-eq0-via-else-high-eq0+then-high-ge128}
use Rattle.ft_rows.proofs.packed.upper_part.Goals as goal

pub returns-in_err-low-clause-none : goal.returns-in_err-low-clause-none
returns-in_err-low-clause-none c = rw c.from_residual.ensures (λ n ns is. absurd (no_numbers c.args.bytes.now _ ns c.in_err-low.ensures is))

pub returns-then-low-eq0-clause-none : goal.returns-then-low-eq0-clause-none
returns-then-low-eq0-clause-none c = λ n ns is.
    let same = number_is c.args.bytes.now c.in_ok-low.rest.now c.in_ok-low.low _ ns c.in_ok-low.ensures.0 (omega arith) is in
    omega (arith, same)

pub returns-then-low-lt128-clause-found : goal.returns-then-low-lt128-clause-found
returns-then-low-lt128-clause-found c = (omega arith, omega arith, ends_number c.args.bytes.now c.in_ok-low.rest.now c.in_ok-low.low c.in_ok-low.ensures.0 (omega arith))

pub returns-in_err-high-clause-none : goal.returns-in_err-high-clause-none
returns-in_err-high-clause-none c = rw c.from_residual-in_err-high.ensures (λ n ns is.
    let upper = upper_of c.args.bytes.now c.in_ok-low.rest.now c.in_ok-low.low _ ns c.in_ok-low.ensures.0 (omega arith) is in
    absurd (no_numbers c.in_ok-low.rest.now _ upper.1 c.in_err-high.ensures upper.2))

pub returns-then-high-eq0-clause-none : goal.returns-then-high-eq0-clause-none
returns-then-high-eq0-clause-none c = λ n ns is.
    let upper = upper_of c.args.bytes.now c.in_ok-low.rest.now c.in_ok-low.low _ ns c.in_ok-low.ensures.0 (omega arith) is in
    elim c.then-high-eq0.branch [
      | then-high-eq0-via-then-high-eq0 w ↦
          let same = number_is c.in_ok-low.rest.now c.in_ok-high.rest.now c.in_ok-high.high _ upper.1 c.in_ok-high.ensures.0 (omega arith) upper.2 in
          omega (arith, same)
      | then-high-eq0-via-else-high-eq0+then-high-ge128 w ↦
          let more = upper_of c.in_ok-low.rest.now c.in_ok-high.rest.now c.in_ok-high.high _ upper.1 c.in_ok-high.ensures.0 (omega arith) upper.2 in
          omega (arith, upper.3, more.3)
    ]

pub returns-clause-found : goal.returns-clause-found
returns-clause-found c = (
  omega arith,
  omega (arith, c.in_ok-low.ensures.1),
  begins_number c.args.bytes.now c.in_ok-low.rest.now c.in_ok-high.rest.now c.in_ok-low.low c.in_ok-high.high c.in_ok-low.ensures.0 (omega arith) (omega arith) (ends_number c.in_ok-low.rest.now c.in_ok-high.rest.now c.in_ok-high.high c.in_ok-high.ensures.0 (omega arith)),
)
