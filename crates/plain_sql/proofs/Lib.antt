mod Common
mod ImportLemmas
mod AnswerLemmas
mod QueryLemmas
mod TablesLemmas
mod CountLemmas
mod PlainImportLemmas
mod ImportTurnLemmas
-- the records of an import as steps
pub use Rattle.plain_sql.proofs.ImportTurnLemmas.{left_rows, records_numbered, split_rows}
-- a plain statement over a clean disk
pub use Rattle.plain_sql.proofs.QueryLemmas.{if_clean}
