use Rattle.std.proofs.Common.{◌≡◌, take, min}
use Rattle.ft_match.proofs.Common.{digits_number}
use Rattle.ft_match.proofs.lexeme.number_of.Given as goal

abbrev pub invariant-loop-digit : goal.invariant-loop-digit
invariant-loop-digit l = l.number ≡ min (digits_number (take l.digit-index l.digits)) 1000001
