-- one argument more
use Rattle.std.proofs.Common.{map, sym, ap, ◌∙◌, ◌∷◌, ◌++◌, [], string_bytes}
use Rattle.ft_statements.proofs.Common.{map-append, append-nil, option_of, argument_as}
use Rattle.ft_statements.proofs.CreateLemmas.{one_setting, one_column}
use Rattle.ft_statements.proofs.create.sorted.Goals as goal

pub loop-argument-preserved-in-Continue-1 : goal.loop-argument-preserved-in-Continue-1
loop-argument-preserved-in-Continue-1 c =
    let ys = c.loop-argument.yielded in
    let is = ap argument_as c.in-Setting.is in
    let setting = option_of (c.in-Setting.name, c.in-Setting.value) in (
      ap (map option_of) c.in_ok-push-in-Setting.ensures.items ∙ map-append option_of c.loop-argument.options.items ((c.in-Setting.name, c.in-Setting.value) ∷ [])
          ∙ ap (λ found. found ++ setting ∷ []) c.loop-argument.invariant.0 ∙ sym (one_setting ys c.in-Some.argument _ is),
      c.loop-argument.invariant.1 ∙ sym (one_column ys c.in-Some.argument _ is ∙ append-nil _),
    )

pub loop-argument-preserved : goal.loop-argument-preserved
loop-argument-preserved c =
    let ys = c.loop-argument.yielded in
    let is = ap argument_as c.in-Column.is in (
      c.loop-argument.invariant.0 ∙ sym (one_setting ys c.in-Some.argument _ is ∙ append-nil _),
      ap (map string_bytes) c.in_ok-push-in-Column.ensures.items ∙ map-append string_bytes c.loop-argument.columns.items (c.in-Column.name ∷ [])
          ∙ ap (λ found. found ++ string_bytes c.in-Column.name ∷ []) c.loop-argument.invariant.1 ∙ sym (one_column ys c.in-Some.argument _ is),
    )
