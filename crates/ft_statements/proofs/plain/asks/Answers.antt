-- a statement that begins as one that writes
use Rattle.std.proofs.Common.{sym, ◌∙◌}
use Rattle.ft_statements.proofs.StatementLemmas.{asks_writing}
use Rattle.ft_statements.proofs.plain.asks.Goals as goal

pub returns-then-is_one_of-2 : goal.returns-then-is_one_of-2
returns-then-is_one_of-2 c =
    c.has.ensures
    ∙ sym (asks_writing c.args.words.now _ c.in-len1-up.len_at_least (sym c.is_one_of.ensures ∙ c.if-is_one_of.false) (sym c.is_one_of-else-is_one_of.ensures ∙ c.if-is_one_of-2.true))
