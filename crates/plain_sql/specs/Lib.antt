-- Meaning
pub mod Imports
pub mod Answers
pub mod PlainStatements
pub mod Listings
pub mod PlainImports
pub mod IntoTables
