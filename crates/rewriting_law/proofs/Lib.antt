pub mod Names
pub mod templates
pub mod batches
pub mod words
pub mod one_memory
pub mod protocol_side
pub mod runs
pub mod progress
