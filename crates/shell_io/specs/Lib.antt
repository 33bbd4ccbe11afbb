-- Meaning
pub mod Records
pub mod Outcomes
pub mod Sources
pub mod Texts
pub mod Writing
-- Steps
pub mod FaultWords
pub mod OutputViews
pub mod LinesRead
