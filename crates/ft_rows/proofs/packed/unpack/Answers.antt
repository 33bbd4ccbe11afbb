use Rattle.std.proofs.Common.{◌++◌, true, length, Some, sym, ap, ◌∙◌, arith, nat_lt, IsTrue}
use Rattle.ft_rows.proofs.Common.{option_and_then, nat_tests, origin, read_after}
use Rattle.ft_rows.proofs.ReadLemmas.{unpacked-no_length, unpacked-is_read, whole, nothing_left, one_passed}
use Rattle.ft_rows.proofs.packed.unpack.Goals as goal

pub returns-then-is_empty : goal.returns-then-is_empty
returns-then-is_empty c = unpacked-no_length c.args.bytes.now (sym c.if-is_empty.ensures)

pub returns-in_default : goal.returns-in_default
returns-in_default c =
    let more : IsTrue (nat_lt 0 (length c.loop-left.left.now)) = grind (arith, nat_tests) in
    unpacked-is_read c.args.bytes.now (sym c.if-is_empty.ensures) ∙ c.loop-left.invariant ∙ ap (option_and_then (λ ss. Some (c.loop-left.spots.items ++ ss))) (c.in_default.ensures.none more)

pub loop-left-init : goal.loop-left-init
loop-left-init c = rw c.in_ok-spots.ensures.items (whole (read_after true origin c.args.bytes.now))

pub loop-left-preserved : goal.loop-left-preserved
loop-left-preserved c = rw c.in_ok-push.ensures.items (one_passed _ c.loop-left.last c.loop-left.left.now c.in-Some.rest.now c.loop-left.spots.items c.in-Some.spot _ c.in-Some.ensures.found c.loop-left.invariant)

pub returns : goal.returns
returns c = unpacked-is_read c.args.bytes.now (sym c.if-is_empty.ensures) ∙ c.loop-left.invariant ∙ nothing_left _ c.loop-left.last c.loop-left.left.now c.loop-left.spots.items (sym c.loop-left-test.ensures)
