use Rattle.std.proofs.Common.{◌≡◌, ◌++◌, length, map}
use Rattle.ft_match.proofs.Common.{plain_token, tokens_of}
use Rattle.ft_match.proofs.text.tokens.Given as goal

-- those that are found, and those that are to come
abbrev pub invariant-loop-found : goal.invariant-loop-found
invariant-loop-found l = map plain_token l.found.items ++ l.tokenizer ≡ tokens_of l.text

abbrev pub decreases-loop-found : goal.decreases-loop-found
decreases-loop-found l = length l.tokenizer
