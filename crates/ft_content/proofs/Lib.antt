mod CommandRows
mod Common
mod MatchRows
mod RowLemmas
mod ContentLemmas
mod IndexLemmas
mod PlanLemmas
mod MeaningLemmas
mod Lists
mod ColumnLemmas
mod TableLemmas
mod GivenLemmas
mod AnswerLemmas
mod DocidLemmas
mod LastLemmas
mod NameLemmas
mod SmallLemmas
-- the rows of an answer, and their cut
pub use Rattle.ft_content.proofs.AnswerLemmas.{cut_of_map, item_cells_are}
-- what commands leave is a content
pub use Rattle.ft_content.proofs.ContentLemmas.{create_makes_content, delete_keeps_content, insert_keeps_content, update_keeps_content}
-- rows hold one content
pub use Rattle.ft_content.proofs.RowLemmas.{contents_are_one, rows_are_read}
-- the lists of an index and their keys, of each document and in order
pub use Rattle.ft_content.proofs.IndexLemmas.{key_cmp_exact, key_cmp_total, lists_are_entries}
pub use Rattle.ft_content.proofs.PlanLemmas.{old_found, sorted_lists}
-- what the lists of an index mean, and what queries find in them
pub use Rattle.ft_content.proofs.MeaningLemmas.{document_rises, documents_are_in_order, entry_total, hits_are_chosen, lists_mean, sorted_set, terms_are_counted, terms_are_their_lists}
