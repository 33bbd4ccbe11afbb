mod Common
mod ExactLemmas
mod PackTests
mod PackedLemmas
mod PackedRows
mod PostingLemmas
mod ReadLemmas
-- packed lists are read as they were, and a list that is read has places
pub use Rattle.ft_rows.proofs.PackedLemmas.{packed_is_read}
pub use Rattle.ft_rows.proofs.ReadLemmas.{some_places}
