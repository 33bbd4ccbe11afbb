-- one argument after the other
use Rattle.std.proofs.Common.{◌∙◌, ap}
use Rattle.std.proofs.lemmas.Result.{IfOk-weaker}
use Rattle.std.specs.Prelude.{codes}
use Rattle.clap.specs.Words.{with_rule}
use Rattle.ft_line.specs.Line.{flag}
use Rattle.ft_line.proofs.line.with_switches.Goals as goal

pub returns : goal.returns
returns c =
    IfOk-weaker c.with_flag-4.result _ _ (λ more is. is ∙ ap (λ a. with_rule a (flag (codes "noheader"))) (c.in_ok-header.ensures ∙ ap (λ a. with_rule a (flag (codes "header"))) (c.in_ok-echo.ensures ∙ ap (λ a. with_rule a (flag (codes "echo"))) (c.in_ok-bail.ensures)))) c.with_flag-4.ensures
