pub mod Traced
pub mod Trace
pub mod Sums
pub mod Given
pub mod Misses
pub mod Looks
pub mod Taking
pub mod Tracing
pub mod Entries
pub mod Kinds
pub mod Committing
pub mod Steps
pub mod Passing
pub mod Visited
pub use Rattle.replay.specs.node_model as node_model
pub use Rattle.replay.specs.run_order as run_order
pub use Rattle.replay.specs.node_machine as node_machine
pub use Rattle.replay.specs as replay
