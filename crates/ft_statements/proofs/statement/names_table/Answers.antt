-- no word is left
use Rattle.std.proofs.Common.{sym, ◌∙◌}
use Rattle.ft_statements.proofs.StatementLemmas.{names_end}
use Rattle.ft_statements.proofs.statement.names_table.Goals as goal

pub returns : goal.returns
returns c = sym (names_end _ c.args.words.now c.loop-place.place c.loop-place-test.false) ∙ c.loop-place.invariant
