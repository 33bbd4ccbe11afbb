-- the tables' names
use Rattle.std.proofs.Common.{string_bytes, sym, ◌∙◌, rules, tests}
use Rattle.std.proofs.lemmas.Iterator.{YieldsList-from_slice}
use Rattle.std.proofs.lemmas.Iterator.Search.{any_from_yields_List}
use Rattle.ft_values.specs.Names.{same_name}
use Rattle.ft_values.specs.declared.table.TableInfo.{TableInfo}
use Rattle.ft_values.proofs.Lists.{any_of_map}
use Rattle.ft_values.proofs.names.has_table.Goals as goal

pub returns : goal.returns
returns c =
    any_from_yields_List (λ (table : TableInfo). same_name (string_bytes table.name) c.args.name.now) _ _ _ c.any.ensures.ran (YieldsList-from_slice c.args.tables.now cc) (λ x b q k. search (rules, tests))
    ∙ sym (any_of_map (λ n. same_name n c.args.name.now) (λ (t : TableInfo). string_bytes t.name) c.args.tables.now)
