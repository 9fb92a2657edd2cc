pub mod Shelf
pub mod Blocks
pub use Rattle.exec_map.specs.byte_range as byte_range
pub use Rattle.exec_map.specs as exec_map
pub use Rattle.node_model.specs.rv32_step as rv32_step
pub use Rattle.node_model.specs.micro_op as micro_op
pub use Rattle.node_model.specs.runtime_words as runtime_words
pub use Rattle.node_model.specs.templates as templates
pub use Rattle.node_model.specs.jump_map as jump_map
pub use Rattle.node_model.specs.llsc as llsc
pub use Rattle.node_model.specs.flag_memory as flag_memory
pub use Rattle.node_model.specs.home_directory as home_directory
pub use Rattle.node_model.specs.dsm_messages as dsm_messages
pub use Rattle.node_model.specs.miss_handlers as miss_handlers
pub use Rattle.node_model.specs as node_model
