use Rattle.std.proofs.Common.{◌-◌, length}
use Rattle.ft_match.proofs.TokenSteps.{HasRun}
use Rattle.ft_match.proofs.text.token_end.Given as goal

abbrev pub invariant-loop-place : goal.invariant-loop-place
invariant-loop-place l = HasRun l.text l.start l.place

abbrev pub decreases-loop-place : goal.decreases-loop-place
decreases-loop-place l = length l.bytes - l.place
