pub mod Waits
pub mod Words
pub mod ProtocolStates
pub mod Places
pub mod Stored
pub mod InUse
pub mod SmpNodes
pub mod SmpNodesInUse
pub use Rattle.node_machine.specs.miss_handlers as miss_handlers
pub use Rattle.node_machine.specs.node_words as node_words
pub use Rattle.node_machine.specs as node_machine
