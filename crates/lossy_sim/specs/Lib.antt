pub mod Links
pub mod Draws
pub mod UnderWay
pub mod WithLoss
pub mod Stored
pub mod Runs
pub use Rattle.dsm_core.specs as dsm_core
pub use Rattle.shared_sim.specs as shared_sim
