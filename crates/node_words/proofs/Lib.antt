pub mod StepLemmas
pub mod WordLemmas
pub mod AccessLemmas
pub mod StrideLemmas
pub mod UndoLogLemmas
pub mod RegisterLemmas
pub mod ReachLemmas
pub mod AlongLemmas
pub mod OneWord
pub mod SequenceLemmas
pub mod FlagLemmas
pub mod HeadLemmas
pub mod WholeLemmas
pub use Rattle.node_memory.proofs as node_memory
