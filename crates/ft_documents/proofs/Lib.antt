mod AddLemmas
mod AskedLemmas
mod CellSteps
mod ChangeLemmas
mod ChosenLemmas
mod Common
mod FoundLemmas
mod GroupsRight
mod IndexOf
mod InsertDue
mod InsertOf
mod InsertRows
mod KeyedRows
mod ListSearch
mod MatchedLemmas
mod NearLemmas
mod PackedChanges
mod ReadRows
mod RewriteLemmas
mod RightLemmas
mod RowKinds
mod StandingContent
mod Steps
mod StoreKeys
mod TermOrder
mod TermRows
mod TableListLemmas
-- rows of a table that is made, and of others
pub use Rattle.ft_documents.proofs.AddLemmas.{added_in_order, added_index, added_rows, own_put}
pub use Rattle.ft_documents.proofs.ChangeLemmas.{spares_others}
-- rows that are asked for lists
pub use Rattle.ft_documents.proofs.AskedLemmas.{asked_answer, lists_count, rows_count}
pub use Rattle.ft_documents.proofs.TermRows.{term_rows}
-- documents that are chosen, and their hits
pub use Rattle.ft_documents.proofs.ChosenLemmas.{all_found, chosen_again, chosen_all, chosen_one, of_hits}
pub use Rattle.ft_documents.proofs.MatchedLemmas.{hits_chosen, none_chosen}
-- a table that is found by its place
pub use Rattle.ft_documents.proofs.FoundLemmas.{placed, unplaced}
-- rewrites: of groups, of an Insert, of a table that is made anew
pub use Rattle.ft_documents.proofs.GroupsRight.{groups_near, groups_right}
pub use Rattle.ft_documents.proofs.InsertDue.{insert_deserves}
pub use Rattle.ft_documents.proofs.InsertOf.{all_written, are_of, put_anew}
pub use Rattle.ft_documents.proofs.InsertRows.{known_from}
-- documents and sizes as they are read
pub use Rattle.ft_documents.proofs.ReadRows.{all_read, docids_read, last_read, none_read, some_read, there_read}
pub use Rattle.ft_documents.proofs.RowKinds.{sized_once}
