pub mod Answers
pub mod Servers
pub mod Sessions
pub mod Views
pub use Rattle.gdb_remote.specs as gdb_remote
