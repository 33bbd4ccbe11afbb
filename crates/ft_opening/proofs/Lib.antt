mod AdoptLemmas
mod ChainLemmas
mod Common
mod ExamineLemmas
mod FoundLemmas
mod MakeLemmas
mod SameLemmas
-- a store that is opened has its own rowids
pub use Rattle.ft_opening.proofs.FoundLemmas.{found_numbered}
