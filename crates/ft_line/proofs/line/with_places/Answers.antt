-- two arguments more
use Rattle.std.proofs.Common.{◌≡◌, ◌∙◌, ap, ap₂, rules}
use Rattle.std.proofs.lemmas.Result.{IfOk-weaker}
use Rattle.clap.specs.Words.{app_of, rule_of, with_rule}
use Rattle.ft_line.specs.Line.{file, sql}
use Rattle.ft_line.proofs.line.with_places.Goals as goal

pub returns : goal.returns
returns c =
    let file_is : rule_of c.help-file.result ≡ file = search rules in
    let sql_is : rule_of c.help-sql.result ≡ sql = search rules in
    IfOk-weaker c.arg-2.result _ _ (λ more adds. adds.shape (search rules)
    ∙ ap₂ with_rule (c.in_ok-arg.ensures.shape (search rules) ∙ ap (with_rule (app_of c.args.command)) file_is) sql_is) c.arg-2.ensures
