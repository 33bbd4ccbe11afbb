use Rattle.std.proofs.Common.{◌≡◌, ◌≤◌, ◌-◌, ℕ, length, IsCharBoundary}
use Rattle.ft_match.proofs.Common.{tokens_left}
use Rattle.ft_match.proofs.text.token_start.Given as goal

abbrev pub invariant-loop-place : goal.invariant-loop-place
invariant-loop-place l =
    (l.from ≤ l.place) × IsCharBoundary l.text l.place × ((count : ℕ) → tokens_left l.text count l.from ≡ tokens_left l.text count l.place)

abbrev pub decreases-loop-place : goal.decreases-loop-place
decreases-loop-place l = length l.bytes - l.place
