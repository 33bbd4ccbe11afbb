-- those so far, and what is read of the words that are left
use Rattle.std.proofs.Common.{◌≡◌, ◌-◌, map}
use Rattle.ft_statements.proofs.Common.{list_at, rest_of}
use Rattle.ft_statements.proofs.FormLaw.{all_onto}
use Rattle.ft_statements.proofs.ReadingLemmas.{is_comma}
use Rattle.ft_statements.proofs.reading.Reader.list.Given as goal

abbrev pub invariant-loop-i : goal.invariant-loop-i
invariant-loop-i g l =
    all_onto (map g.T.Spelled.shown l.found.items) (list_at is_comma g.T.Spelled.form (l.most - l.i) (rest_of l.self))
    ≡ list_at is_comma g.T.Spelled.form l.most (rest_of l.initial.self)
