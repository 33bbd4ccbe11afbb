-- Meaning
pub mod Line
pub mod LineGives
