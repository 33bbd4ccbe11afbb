-- Meaning
pub mod Command
pub mod Views
