use Rattle.std.proofs.Common.{arith}
use Rattle.ft_match.proofs.Common.{common_steps}
use Rattle.ft_match.proofs.LimitTests.{deep_already}
use Rattle.ft_match.proofs.limits.nests_deep.Goals as goal

pub returns-then-saturating_sub-gt-MOST_PARENTHESES : goal.returns-then-saturating_sub-gt-MOST_PARENTHESES
returns-then-saturating_sub-gt-MOST_PARENTHESES c = grind (arith, common_steps, deep_already)
