-- the test of the tokens is that of their views
use Rattle.std.proofs.Common.{◌∙◌, sym, codes}
use Rattle.ft_statements.proofs.Common.{spells}
use Rattle.ft_statements.proofs.StatementLemmas.{any_seen}
use Rattle.ft_statements.proofs.plain.seeks.Goals as goal

pub returns : goal.returns
returns c = c.has.ensures ∙ sym (any_seen (spells (codes "MATCH")) c.args.words.now)
