pub mod Waits
pub mod Effects
pub mod Rows
pub mod Search
pub mod Completion
pub use Rattle.llsc.specs as llsc
pub use Rattle.home_directory.specs.state_table as state_table
pub use Rattle.home_directory.specs.flag_memory as flag_memory
pub use Rattle.home_directory.specs as home_directory
pub use Rattle.home_directory.specs.dsm_messages as dsm_messages
