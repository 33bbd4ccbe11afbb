-- Meaning
pub mod Work
pub mod Walk
-- Steps
pub mod Lists
pub mod Cursors
pub mod Search
pub mod Spines
pub mod Visit
pub mod Taken
pub mod Sought
pub mod Loaded
pub mod Marked
