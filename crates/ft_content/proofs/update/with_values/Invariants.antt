-- the cells so far
use Rattle.std.proofs.Common.{◌≡◌, map}
use Rattle.ft_content.proofs.Common.{shown_value, column_of, set_of}
use Rattle.ft_content.specs.Step as step
use Rattle.ft_content.proofs.update.with_values.Given as goal

abbrev pub invariant-loop-column : goal.invariant-loop-column
invariant-loop-column l = map shown_value l.after.items ≡ map (λ p. step.value_under (map set_of l.sets) (column_of p.0.now) (shown_value p.1.now)) l.yielded
