-- Meaning
pub mod Reading
pub mod Opening
pub mod Hosts
