-- Meaning
pub mod Found
pub mod Tables
pub mod Rewrite
pub mod RewriteRows
-- Steps
pub mod Gathered
pub mod Chosen
pub mod Inserted
pub mod MadeIndex
pub mod Matched
pub mod NewDocuments
pub mod Placed
pub mod RowLaws
pub mod Standing
pub mod Terms
pub mod Updated
