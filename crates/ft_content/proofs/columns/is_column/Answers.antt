-- the columns' names are those of the definition's columns
use Rattle.std.proofs.Common.{string_bytes, ap, sym, ◌∙◌, rules, tests}
use Rattle.ft_content.proofs.Common.{list_any, YieldsList-from_slice, Column, same_name}
use Rattle.ft_content.proofs.ColumnLemmas.{names_are}
use Rattle.ft_content.proofs.Lists.{any_shown}
use Rattle.ft_content.proofs.columns.is_column.Goals as goal

pub returns : goal.returns
returns c =
    any_shown (same_name c.args.name.now) (λ (column : Column). string_bytes column.name) _ _ _ c.any.ensures.ran (YieldsList-from_slice c.args.columns.now cc) (λ x b q k. search (rules, tests))
    ∙ ap (list_any (same_name c.args.name.now)) (sym (names_are c.args.columns.now))
