pub mod Polls
pub use Rattle.flow_graph.specs as flow_graph
