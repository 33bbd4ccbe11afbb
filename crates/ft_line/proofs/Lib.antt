mod LineLemmas
mod LineRows
