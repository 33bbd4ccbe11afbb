-- the items as the definitions see them
use Rattle.std.proofs.Common.{Bool, sym, ◌∙◌, rules, tests}
use Rattle.ft_index.proofs.Common.{YieldsList-from_slice, item_of, reads_document}
use Rattle.std.proofs.lemmas.Iterator.Search.{any_from_yields_List}
use Rattle.ft_commands.specs.declared.command.Item.{Item}
use Rattle.ft_commands.specs.Command as plain
use Rattle.ft_index.proofs.SelectAnswers.{any_of_map}
use Rattle.ft_index.proofs.select.has_column.Goals as goal

pub returns : goal.returns
returns c =
    let test : plain.Item → Bool = reads_document in
    any_from_yields_List (λ (item : Item). test (item_of item)) _ _ _ c.any.ensures.ran (YieldsList-from_slice c.args.items.now cc) (λ x b q k. search (rules, tests))
    ∙ sym (any_of_map test item_of c.args.items.now)
