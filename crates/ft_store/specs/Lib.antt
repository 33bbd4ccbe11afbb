-- Meaning
pub mod Blame
pub mod Calls
pub mod Docids
pub mod Kept
pub mod Rows
pub mod Tables
pub mod Puts
pub mod Parts
-- Steps
pub mod Anew
pub mod Changes
pub mod Expected
pub mod Found
pub mod Groups
pub mod Inside
pub mod Made
pub mod Range
pub mod Settled
pub mod Streamed
