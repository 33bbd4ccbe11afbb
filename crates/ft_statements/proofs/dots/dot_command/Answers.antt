use Rattle.ft_statements.proofs.DotLaw.{said}
use Rattle.ft_statements.proofs.dots.dot_command.Goals as goal

pub returns : goal.returns
returns c = said _ _ c.line_command.ensures
