pub mod Names
pub mod Parts
pub mod Events
pub mod Shown
pub use Rattle.run_trace.specs.run_order as run_order
pub use Rattle.run_trace.specs.node_machine as node_machine
pub use Rattle.run_trace.specs.replay as replay
pub use Rattle.run_trace.specs as run_trace
