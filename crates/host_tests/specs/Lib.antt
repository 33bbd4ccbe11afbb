-- Steps
pub mod Names
