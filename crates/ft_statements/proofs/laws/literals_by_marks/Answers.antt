use Rattle.ft_statements.proofs.WordLemmas.{stands_marked, stands_halved, halved_stands, between}
use Rattle.ft_statements.proofs.laws.literals_by_marks.Goals as goal

pub returns-clause-inside : goal.returns-clause-inside
returns-clause-inside c = λ mark inside text. ((λ s. (stands_marked s, stands_halved s)), halved_stands mark inside text)

pub returns-clause-between : goal.returns-clause-between
returns-clause-between c = λ mark inside text s. between mark s
