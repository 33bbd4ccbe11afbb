-- Meaning
pub mod Inputs
pub mod Closed
pub mod Reopened
pub mod InFiles
pub mod Memory
