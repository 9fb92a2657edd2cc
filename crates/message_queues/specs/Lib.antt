pub mod Queue
pub use Rattle.node_model.specs as node_model
