use Rattle.std.proofs.Common.{lit<}
use Rattle.std.proofs.lemmas.Str.Pattern.{split_once_first}
use Rattle.ft_match.proofs.Filters.{colon_parts}
use Rattle.ft_match.proofs.lexeme.split_colon.Goals as goal

pub returns : goal.returns
returns c = colon_parts c.args.chunk.now c.split_once.result (split_once_first 58 c.args.chunk.now c.split_once.result c.split_once.ensures.cases (lit< tt))
