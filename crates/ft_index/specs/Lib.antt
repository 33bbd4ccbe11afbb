-- Meaning
pub mod DocumentsRead
pub mod Planned
pub mod Opened
-- Steps
pub mod Refused
pub mod Walked
pub mod Changed
pub mod Written
pub mod Selected
