-- Meaning
pub mod Shell
pub mod Effects
pub mod Broken
pub mod DotParts
pub mod FullTextTurns
pub mod PlainTurns
pub mod StatementTurns
pub mod DotTurns
pub mod TurnCalls
pub mod Turns
pub mod Runs
pub mod Promise
pub mod TablesTurns
pub mod ImportTurns
-- Steps
pub mod Ran
