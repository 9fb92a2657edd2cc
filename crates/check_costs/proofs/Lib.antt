mod Adding
pub mod Alike
mod Instructions
pub mod Labelling
mod Numbering
mod Ordering
mod Ranking
pub mod Runs
mod Sequences
mod Sweeping
mod Tallying
mod Totals
