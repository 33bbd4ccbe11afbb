use Rattle.ft_statements.proofs.PlainLaw.{asks_sound, asks_complete, made_sound, made_complete}
use Rattle.ft_statements.proofs.laws.plain_by_grammar.Goals as goal

pub returns-clause-asks : goal.returns-clause-asks
returns-clause-asks c = λ ts. (asks_sound ts, asks_complete)

pub returns-clause-made : goal.returns-clause-made
returns-clause-made c = λ ts name. (made_sound ts name, made_complete ts name)
