-- by induction over the calls, as where no cause is known
use Rattle.ft_calls.proofs.Calls.{kept_for_causes}
use Rattle.ft_calls.proofs.laws.kept_with_causes.Goals as goal

pub returns : goal.returns
returns c d = kept_for_causes _
