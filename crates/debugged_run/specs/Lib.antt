pub mod Seen
pub mod Motions
pub mod Commands
pub use Rattle.gdb_session.specs as gdb_session
pub use Rattle.one_memory.specs as one_memory
pub use Rattle.time_machine.specs as time_machine
