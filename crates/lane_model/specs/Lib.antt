pub mod Nodes
pub mod Turns
pub mod Core
pub mod Outcome
pub use Rattle.node_model.specs.jump_map as jump_map
pub use Rattle.node_model.specs as node_model
