use Rattle.std.proofs.Common.{◌≡◌, take, min}
use Rattle.ft_statements.specs.Values.{digits_value}
use Rattle.ft_statements.proofs.values.digits_value.Given as goal

abbrev pub invariant-loop-digit : goal.invariant-loop-digit
invariant-loop-digit l = l.number ≡ min (digits_value (take l.digit-index l.digits)) 9223372036854775809
