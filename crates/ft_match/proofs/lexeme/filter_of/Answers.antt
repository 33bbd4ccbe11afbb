use Rattle.std.proofs.Common.{rules}
use Rattle.ft_match.proofs.Filters.{filter_named}
use Rattle.ft_match.proofs.lexeme.filter_of.Goals as goal

pub returns-in_err-column : goal.returns-in_err-column
returns-in_err-column c =
    search (rules, filter_named c.args.columns.now c.args.chunk.now c.in_ok-name.name.now c.in_ok-name.ensures.0 c.in_ok-name.ensures.1)

pub returns : goal.returns
returns c = search (rules, filter_named c.args.columns.now c.args.chunk.now c.in_ok-name.name.now c.in_ok-name.ensures.0 c.in_ok-name.ensures.1)
