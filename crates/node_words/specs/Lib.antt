pub mod Address
pub mod Bytes
pub mod Kept
pub mod Runs
pub mod GoingOn
pub mod Strides
pub mod Trails
pub mod UndoLogs
pub use Rattle.rv32_ops.specs as rv32_ops
pub use Rattle.node_memory.specs.byte_range as byte_range
pub use Rattle.node_memory.specs.rv32_step as rv32_step
pub use Rattle.node_memory.specs.micro_op as micro_op
pub use Rattle.node_memory.specs.exec_map as exec_map
pub use Rattle.node_memory.specs.runtime_words as runtime_words
pub use Rattle.node_memory.specs.templates as templates
pub use Rattle.node_memory.specs.jump_map as jump_map
pub use Rattle.node_memory.specs.llsc as llsc
pub use Rattle.node_memory.specs.flag_memory as flag_memory
pub use Rattle.node_memory.specs.home_directory as home_directory
pub use Rattle.node_memory.specs.dsm_messages as dsm_messages
pub use Rattle.node_memory.specs.miss_handlers as miss_handlers
pub use Rattle.node_memory.specs.node_model as node_model
pub use Rattle.node_memory.specs as node_memory
