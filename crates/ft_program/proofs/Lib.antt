mod InputLemmas
mod MemoryLemmas
mod Reopening
mod StatusLemmas
