pub mod Refusals
pub mod Replay
pub mod Told
pub mod Way
pub use Rattle.run_order.specs.node_model as node_model
pub use Rattle.run_order.specs as run_order
pub use Rattle.dsm_core.specs.rewriting_law as rewriting_law
pub use Rattle.dsm_core.specs.node_machine as node_machine
pub use Rattle.dsm_core.specs as dsm_core
pub use Rattle.run_record.specs as run_record
