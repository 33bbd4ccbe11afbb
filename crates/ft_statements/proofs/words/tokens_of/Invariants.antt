-- the words so far
use Rattle.std.proofs.Common.{◌≡◌, ◌+◌, map, take, slice_range}
use Rattle.ft_statements.proofs.Common.{token, plain}
use Rattle.ft_statements.proofs.words.tokens_of.Given as goal

abbrev pub invariant-loop-word : goal.invariant-loop-word
invariant-loop-word l = plain l.tokens.items ≡ map (λ w. token w.kind (slice_range l.text w.start (w.start + w.size))) (take l.word-index l.words)
