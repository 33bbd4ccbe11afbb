use Rattle.std.proofs.Common.{rules}
use Rattle.ft_match.proofs.TokenLaw.{computed_tokens}
use Rattle.ft_match.proofs.text.tokens.Goals as goal

pub returns : goal.returns
returns c = search (rules, computed_tokens c.args.text.now)
