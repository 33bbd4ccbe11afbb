-- nothing is left of a line, or a line ends
use Rattle.std.proofs.Common.{rules, ◌≡◌, ◌∷◌, [], refl}
use Rattle.shell_io.specs.LinesRead.{Way, at_end, behind, members_left}
use Rattle.ft_shell.proofs.RanLemmas.{passes_none, runs_as}
use Rattle.ft_shell.proofs.session.Session.finish_line.Goals as goal

pub returns-then-is_between_lines-clause-runs : goal.returns-then-is_between_lines-clause-runs
returns-then-is_between_lines-clause-runs g c = passes_none g.P.Store g.S.Store _ _ _ (λ _. refl)

pub returns-clause-runs : goal.returns-clause-runs
returns-clause-runs g c =
    let within : members_left c.args.lines.now at_end ≡ members_left c.args.lines.now (behind (10 ∷ []) at_end) = search rules in
    runs_as g.P.Store g.S.Store c.end_line.result (λ (way : Way). members_left c.args.lines.now (behind [] (behind (10 ∷ []) way))) (members_left c.end_line.new.lines) (λ (_ : Unit {0}). members_left c.args.lines.now at_end) (λ _. members_left c.end_line.new.lines at_end) (λ _. at_end) _ _
    (λ _. within) (λ _ goes. refl) c.end_line.ensures.runs
