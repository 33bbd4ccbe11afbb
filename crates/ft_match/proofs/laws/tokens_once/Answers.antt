use Rattle.ft_match.proofs.TokenLaw.{computed_tokens}
use Rattle.ft_match.proofs.TokenOnce.{same_tokens}
use Rattle.ft_match.proofs.laws.tokens_once.Goals as goal

pub returns-clause-computed : goal.returns-clause-computed
returns-clause-computed c = computed_tokens

pub returns-clause-once : goal.returns-clause-once
returns-clause-once c = same_tokens
