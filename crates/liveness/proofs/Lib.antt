pub mod MarksLemmas
pub mod SetLemmas
pub mod ChainLemmas
pub mod TieLemmas
