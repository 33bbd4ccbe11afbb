use Rattle.ft_statements.proofs.DotLaw.{line_sound, line_complete}
use Rattle.ft_statements.proofs.laws.dot_lines_by_grammar.Goals as goal

pub returns : goal.returns
returns c = λ words command. (line_sound words command, line_complete words command)
