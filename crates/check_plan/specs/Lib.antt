pub mod Members
pub use Rattle.liveness.specs as liveness
