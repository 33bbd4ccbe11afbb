-- the columns' names are those of the definition's columns
use Rattle.std.proofs.Common.{string_bytes, sym, ◌∙◌, rules, tests}
use Rattle.ft_content.proofs.Common.{YieldsList-from_slice, position_from_yields_List, same_name, Column}
use Rattle.ft_content.proofs.ColumnLemmas.{position_of_names}
use Rattle.ft_content.proofs.columns.column_place.Goals as goal

pub returns : goal.returns
returns c =
    position_from_yields_List (λ (column : Column). same_name c.args.name.now (string_bytes column.name)) _ _ _ c.position.ensures.ran (YieldsList-from_slice c.args.columns.now cc) (λ x b q k. search (rules, tests))
    ∙ sym (position_of_names (same_name c.args.name.now) c.args.columns.now)
