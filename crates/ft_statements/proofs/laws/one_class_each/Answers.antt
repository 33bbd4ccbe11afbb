use Rattle.ft_statements.proofs.GrammarClass.{one_statement, one_class}
use Rattle.ft_statements.proofs.laws.one_class_each.Goals as goal

pub returns-clause-command : goal.returns-clause-command
returns-clause-command c = one_statement

pub returns-clause-class : goal.returns-clause-class
returns-clause-class c = one_class
