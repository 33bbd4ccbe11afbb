use Rattle.std.proofs.Common.{arith, rules}
use Rattle.ft_opening.proofs.SameLemmas.{one_check, no_check}
use Rattle.ft_opening.proofs.same.is_cell_check.Goals as goal

pub returns-then-nodes-gt2 : goal.returns-then-nodes-gt2
returns-then-nodes-gt2 c = one_check c.as_slice-nodes.result.now c.as_slice.result.now c.args.checks.now _ (rw c.as_slice-nodes.ensures (rw c.as_slice.ensures c.checks.view_is)) (omega arith) (omega arith) (omega arith) c.is_cell_test.ensures

pub returns-else-nodes-gt2 : goal.returns-else-nodes-gt2
returns-else-nodes-gt2 c = (λ t. absurd (search (rules, t)), λ e. absurd (no_check c.as_slice-nodes.result.now c.as_slice.result.now c.args.checks.now (rw c.as_slice-nodes.ensures (rw c.as_slice.ensures c.checks.view_is)) (omega arith) (omega arith) e))
