-- Meaning
pub mod Words
pub mod Forms
pub mod Values
pub mod Create
pub mod Statements
pub mod Plain
pub mod Dots
pub mod Replies
pub mod Settings
pub mod Grammar
-- Steps
pub mod Reading
pub mod Views
