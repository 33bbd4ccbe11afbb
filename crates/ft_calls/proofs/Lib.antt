mod Calls
mod NameLemmas
-- a clean disk at the end of calls was clean at their start, a note leaves contents, and no two tables get one name
pub use Rattle.ft_calls.proofs.Calls.{clean_at_first, note_holds}
pub use Rattle.ft_calls.proofs.NameLemmas.{apart_after}
