pub mod Node
pub mod Turns
pub mod Core
pub mod Outcome
pub use Rattle.jump_map.specs.rv32_program as rv32_program
pub use Rattle.jump_map.specs.rv32_step as rv32_step
pub use Rattle.jump_map.specs.micro_op as micro_op
pub use Rattle.jump_map.specs.runtime_words as runtime_words
pub use Rattle.jump_map.specs.templates as templates
pub use Rattle.jump_map.specs as jump_map
pub use Rattle.miss_handlers.specs.llsc as llsc
pub use Rattle.miss_handlers.specs.state_table as state_table
pub use Rattle.miss_handlers.specs.flag_memory as flag_memory
pub use Rattle.miss_handlers.specs.home_directory as home_directory
pub use Rattle.miss_handlers.specs.dsm_messages as dsm_messages
pub use Rattle.miss_handlers.specs as miss_handlers
