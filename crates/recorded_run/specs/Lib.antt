pub mod Commands
pub mod Nodes
pub mod Shown
pub mod Walks
pub mod Tells
pub use Rattle.debugged_run.specs as debugged_run
pub use Rattle.record_picks.specs as record_picks
