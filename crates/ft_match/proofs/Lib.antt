mod Common
mod TokenSteps
mod TokenRows
mod PartRows
mod ParseRows
mod OffsetRows
mod Unique
mod TokenLaw
mod Sound
mod TokenOnce
mod Characters
mod Parsed
mod Bridge
mod BridgeDocuments
mod OffsetOrder
mod Choices
mod LimitTests
mod Terms
mod Filters
mod PartLaw
mod Parts
mod Capped
-- tokens and postings of texts
pub use Rattle.ft_match.proofs.TokenLaw.{computed_tokens}
pub use Rattle.ft_match.proofs.TokenOnce.{pairs_head, pairs_tail}
pub use Rattle.ft_match.proofs.Bridge.{postings_rise}
pub use Rattle.ft_match.proofs.BridgeDocuments.{accepts_nothing, documents_are}
-- rising offsets
pub use Rattle.ft_match.proofs.OffsetOrder.{Rises, only_offsets}
-- where the elements of lists come from, and the choices of a chain
pub use Rattle.ft_match.proofs.OffsetOrder.{contains_cases, contains_head, contains_tail}
pub use Rattle.ft_match.proofs.Choices.{contains_nothing, map_from, map_to, filter_from, filter_to, flat_from, flat_to, chosen}
