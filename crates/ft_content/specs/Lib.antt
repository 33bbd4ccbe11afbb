-- Meaning
pub mod Content
pub mod Index
pub mod Views
pub mod Answer
pub mod Step
pub mod Laws
pub mod Meaning
-- Steps
pub mod Calls
pub mod Small
