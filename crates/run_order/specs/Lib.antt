pub mod Sorted
pub mod OwnRun
pub mod Merge
pub mod Apart
pub mod Takes
pub use Rattle.node_model.specs as node_model
