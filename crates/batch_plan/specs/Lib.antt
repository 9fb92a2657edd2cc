pub mod Stretches
pub mod Batches
pub use Rattle.check_plan.specs.liveness as liveness
pub use Rattle.check_plan.specs as check_plan
