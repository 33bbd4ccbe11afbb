-- one argument after the other
use Rattle.std.proofs.Common.{◌∙◌, ap}
use Rattle.std.proofs.lemmas.Result.{IfOk-weaker}
use Rattle.std.specs.Prelude.{codes}
use Rattle.clap.specs.Words.{with_rule}
use Rattle.ft_line.specs.Line.{flag}
use Rattle.ft_line.proofs.line.with_modes.Goals as goal

pub returns : goal.returns
returns c =
    IfOk-weaker c.with_flag-4.result _ _ (λ more is. is ∙ ap (λ a. with_rule a (flag (codes "quote"))) (c.in_ok-column.ensures ∙ ap (λ a. with_rule a (flag (codes "column"))) (c.in_ok-csv.ensures ∙ ap (λ a. with_rule a (flag (codes "csv"))) (c.in_ok-list.ensures)))) c.with_flag-4.ensures
