pub mod Home
pub mod Table
pub mod Effects
pub mod Lists
pub mod Rows
pub use Rattle.flag_memory.specs.byte_range as byte_range
pub use Rattle.state_table.specs as state_table
pub use Rattle.flag_memory.specs as flag_memory
pub use Rattle.dsm_messages.specs as dsm_messages
