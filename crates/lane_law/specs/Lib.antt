pub mod Picks
pub mod Law
pub use Rattle.dsm_protocol.specs as dsm_protocol
