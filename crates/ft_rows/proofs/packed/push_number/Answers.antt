use Rattle.std.proofs.Common.{arith}
use Rattle.ft_rows.proofs.ReadLemmas.{one_byte_more, last_byte_more}
use Rattle.ft_rows.proofs.packed.push_number.Goals as goal

pub loop-rest-preserved : goal.loop-rest-preserved
loop-rest-preserved c = rw c.in_ok-push.ensures.items (one_byte_more c.loop-rest.bytes.items _ c.loop-rest.rest (omega arith) (omega arith) c.loop-rest.invariant)

pub returns : goal.returns
returns c = rw c.in_ok-push-2.ensures.items (last_byte_more c.loop-rest.bytes.items _ c.loop-rest.rest (omega arith) c.loop-rest.invariant)
