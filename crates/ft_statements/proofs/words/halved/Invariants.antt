-- words/halved/Invariants.antt
-- what was taken, and then what is left
use Rattle.std.proofs.Common.{string_bytes}
use Rattle.ft_statements.proofs.Common.{chars_rest}
use Rattle.ft_statements.proofs.WordLemmas.{Halves}
use Rattle.ft_statements.proofs.words.halved.Given as goal

abbrev pub invariant-loop-c : goal.invariant-loop-c
invariant-loop-c l = Halves l.mark l.text (string_bytes l.found) l.after (chars_rest l.c-iterator)
