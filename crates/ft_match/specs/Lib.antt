-- Meaning
pub mod Tokens
pub mod Trees
pub mod Lexemes
pub mod Grammar
pub mod Reads
pub mod Documents
pub mod Occurs
-- Steps
pub mod Pass
pub mod Cutting
pub mod Machine
