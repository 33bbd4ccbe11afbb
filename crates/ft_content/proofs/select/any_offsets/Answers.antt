-- the items as the definitions see them
use Rattle.std.proofs.Common.{rules, tests}
use Rattle.ft_content.proofs.Common.{YieldsList-from_slice, is_offsets, item_of}
use Rattle.ft_content.proofs.Lists.{any_shown}
use Rattle.ft_content.proofs.select.any_offsets.Goals as goal

pub returns : goal.returns
returns c = any_shown is_offsets item_of _ _ _ c.any.ensures.ran (YieldsList-from_slice c.args.items.now cc) (λ x b q k. search (rules, tests))
