mod Common
mod PlainTurnLemmas
mod ClassLemmas
mod RanLemmas
mod RunLemmas
mod PieceLemmas
mod CallsLemmas
mod Spelled
mod PromiseLemmas
mod TurnsLemmas
mod ImportTurnLemmas
mod HoldsLemmas
mod DotLemmas
-- the effects of turns and runs, one after the other
pub use Rattle.ft_shell.proofs.PromiseLemmas.{all_made}
pub use Rattle.ft_shell.proofs.TurnsLemmas.{assoc_then, idle_then, then_idle}
