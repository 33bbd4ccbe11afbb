-- Meaning
pub mod Kept
pub mod RowsRead
pub mod Causes
