-- one group of arguments after the other
use Rattle.std.proofs.Common.{◌∙◌, ap}
use Rattle.std.proofs.lemmas.Result.{IfOk-weaker}
use Rattle.clap.specs.Words.{with_rule}
use Rattle.ft_line.specs.Line.{file, modes, sql, switches, texts, with_rules}
use Rattle.ft_line.proofs.line.command.Goals as goal

pub returns : goal.returns
returns c =
    let switched = c.in_ok-switches.ensures ∙ ap (λ a. with_rules a switches) c.without_arguments.ensures in
    let moded = c.in_ok-modes.ensures ∙ ap (λ a. with_rules a modes) switched in
    let texted = c.in_ok-texts.ensures ∙ ap (λ a. with_rules a texts) moded in
    IfOk-weaker c.with_places.result _ _ (λ more is. is ∙ ap (λ a. with_rule (with_rule a file) sql) texted) c.with_places.ensures
