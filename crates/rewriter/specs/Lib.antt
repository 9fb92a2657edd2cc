pub mod Parts
pub mod RewrittenFile
pub mod TooLarge
pub use Rattle.poll_plan.specs.flow_graph as flow_graph
pub use Rattle.batch_plan.specs.liveness as liveness
pub use Rattle.batch_plan.specs.check_plan as check_plan
pub use Rattle.poll_plan.specs as poll_plan
pub use Rattle.batch_plan.specs as batch_plan
pub use Rattle.jump_map.specs as jump_map
