-- Meaning
pub mod Adopted
pub mod Older
pub mod Opened
-- Steps
pub mod Marking
pub mod Same
pub mod Scan
pub mod Taking
