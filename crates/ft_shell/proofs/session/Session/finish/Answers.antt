-- the last line, and then what is pending
use Rattle.std.proofs.Common.{rules, ◌≡◌, ◌∙◌, [], Err, true, false, sym, refl}
use Rattle.shell_io.specs.LinesRead.{at_end, members_left}
use Rattle.ft_shell.proofs.RanLemmas.{passes_as, runs_err, runs_then}
use Rattle.ft_shell.proofs.session.Session.finish.Goals as goal

pub returns-in_err-finish_line-clause-runs : goal.returns-in_err-finish_line-clause-runs
returns-in_err-finish_line-clause-runs g c =
    let is : c.from_residual.result ≡ Err c.in_err-finish_line.field-0.0 = search rules in
    runs_err g.P.Store g.S.Store c.from_residual.result c.in_err-finish_line.field-0.0 (λ (_ : Unit {0}). members_left c.args.lines.now at_end) (λ _. []) _ _ is c.in_err-finish_line.ensures.runs

pub returns-then-outputs-clause-runs : goal.returns-then-outputs-clause-runs
returns-then-outputs-clause-runs g c =
    let ended : c.finish_line.new.outputs.status.quit ≡ true = search rules in
    passes_as g.P.Store g.S.Store _ _ _ _ (λ (u : Unit {0}). u) _ _ (λ _. refl) (λ _ goes. absurd (let wrong : true ≡ false = sym ended ∙ goes in cc)) c.in_ok-finish_line.ensures.runs

pub returns-clause-runs : goal.returns-clause-runs
returns-clause-runs g c =
    let goes : c.finish_line.new.outputs.status.quit ≡ false = search rules in
    runs_then g.P.Store g.S.Store c.finish_last.result _ _ _ _ _ _ c.in_ok-finish_line.ensures.runs goes c.finish_last.ensures.runs
