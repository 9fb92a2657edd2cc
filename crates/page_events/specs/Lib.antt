pub mod Escape
pub mod Shown
pub mod Sought
pub mod Places
pub use Rattle.event_text.specs.node_machine as node_machine
pub use Rattle.event_text.specs.run_trace as run_trace
pub use Rattle.event_text.specs as event_text
