-- the options as pairs of texts
use Rattle.std.proofs.Common.{not, ◌&&◌, ap, rules, tests}
use Rattle.ft_content.proofs.Common.{YieldsList-from_slice, same_name, is_notindexed, option_of}
use Rattle.ft_content.proofs.Lists.{any_shown}
use Rattle.ft_content.proofs.create.is_indexed.Goals as goal

pub returns : goal.returns
returns c = ap not (any_shown (λ o. is_notindexed o && same_name o.1 c.args.name.now) option_of _ _ _ c.any.ensures.ran (YieldsList-from_slice c.args.options.now cc) (λ x b q k. search (rules, tests)))
