use Rattle.std.proofs.Common.{length}
use Rattle.ft_opening.proofs.same.+are.Given as goal

abbrev pub decreases-are : goal.decreases-are
decreases-are g l = length l.items.now
