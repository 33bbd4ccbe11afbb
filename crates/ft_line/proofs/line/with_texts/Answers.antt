-- one argument after the other
use Rattle.std.proofs.Common.{◌∙◌, ap}
use Rattle.std.proofs.lemmas.Result.{IfOk-weaker}
use Rattle.std.specs.Prelude.{codes}
use Rattle.clap.specs.Words.{with_rule}
use Rattle.ft_line.specs.Line.{value_option}
use Rattle.ft_line.proofs.line.with_texts.Goals as goal

pub returns : goal.returns
returns c =
    IfOk-weaker c.with_option-2.result _ _ (λ more is. is ∙ ap (λ a. with_rule a (value_option (codes "nullvalue"))) (c.in_ok-separator.ensures)) c.with_option-2.ensures
