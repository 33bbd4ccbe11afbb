use Rattle.ft_statements.proofs.GrammarClass.{statement_sound, statement_complete, class_sound, class_complete, no_class_is, no_class_found}
use Rattle.ft_statements.proofs.laws.statements_by_grammar.Goals as goal

pub returns-clause-command : goal.returns-clause-command
returns-clause-command c = λ ts x. (statement_sound ts x, statement_complete ts x)

pub returns-clause-class : goal.returns-clause-class
returns-clause-class c = λ tables ts class. (class_sound tables ts class, class_complete tables ts class)

pub returns-clause-none : goal.returns-clause-none
returns-clause-none c = λ tables ts. (no_class_is tables ts, no_class_found tables ts)
