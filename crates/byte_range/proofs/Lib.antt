pub mod ByteLemmas
mod RangeLemmas
mod LineLemmas
mod PieceLemmas
mod ZeroLemmas
