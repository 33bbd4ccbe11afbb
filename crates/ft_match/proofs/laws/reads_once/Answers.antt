use Rattle.ft_match.proofs.Unique.{same_reading}
use Rattle.ft_match.proofs.laws.reads_once.Goals as goal

pub returns : goal.returns
returns c = same_reading
