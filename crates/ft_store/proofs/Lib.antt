mod AddNameLemmas
mod AddedLemmas
mod AnewLemmas
mod AnswerLemmas
mod BlameLemmas
mod CantLemmas
mod ChainLemmas
mod ChangeLemmas
mod ClearLemmas
mod Common
mod EntryLemmas
mod ExpectedLemmas
mod FoundLemmas
mod GroupLemmas
mod InsideLemmas
mod KeyedLemmas
mod LastLemmas
mod MadeLemmas
mod MakeLemmas
mod NamedLemmas
mod PutLemmas
mod RangeLemmas
mod RefusedLemmas
mod StoreTables
mod TableLemmas
mod Texts
mod TypedLemmas
-- what stands after one call and another
pub use Rattle.ft_store.proofs.BlameLemmas.{blamed_then}
pub use Rattle.ft_store.proofs.ChainLemmas.{kept_then}
-- changes that no store refuses
pub use Rattle.ft_store.proofs.CantLemmas.{nothing_put}
-- a row that is put under its key
pub use Rattle.ft_store.proofs.KeyedLemmas.{put-without_key}
-- for `ft_opening`: texts of statements, and queries of one table
pub use Rattle.ft_store.proofs.Texts.{make_skip_text, no_limit, no_offset, query_by, rising, table_query}
-- what a query gives of a table, and why it is refused
pub use Rattle.ft_store.proofs.AnswerLemmas.{cmp_ints, query_refused}
pub use Rattle.ft_store.proofs.CantLemmas.{ascending_push}
pub use Rattle.ft_store.proofs.ChangeLemmas.{all_selected, arranged, no_overlay}
pub use Rattle.ft_store.proofs.FoundLemmas.{AreNumbers}
pub use Rattle.ft_store.proofs.KeyedLemmas.{rises-sort_by}
pub use Rattle.ft_store.proofs.TypedLemmas.{DifferIn, IsInt, int_is, is_integer, not_null, tied_ints}
-- what a statement writes, and why it is refused
pub use Rattle.ft_store.proofs.ChangeLemmas.{cast_int, cast_null, deletes, inserts}
pub use Rattle.ft_store.proofs.RefusedLemmas.{apart, delete_blamed_in, never_leads, refers, write_refused_as}
pub use Rattle.ft_store.proofs.StoreTables.{same_store, shaped_after}
-- a table that is made
pub use Rattle.ft_store.proofs.MakeLemmas.{allows_skip, create_blamed, creates, makes_skip, own, shows_then}
-- what one call leaves, and why it is refused
pub use Rattle.ft_store.proofs.BlameLemmas.{fails_blamed, refused_keeps, shown_commit, shown_open, unchanged_keeps, unless_shut}
pub use Rattle.ft_store.proofs.ChainLemmas.{ok_too}
pub use Rattle.ft_store.proofs.InsideLemmas.{runs_make, stays_then}
