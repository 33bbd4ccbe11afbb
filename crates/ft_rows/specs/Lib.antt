-- Meaning
pub mod Changes
pub mod Packed
pub mod Shown
pub mod Store
-- Steps
pub mod Terms
pub mod Unpacking
