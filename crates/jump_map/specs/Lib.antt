pub mod Image
pub mod Maps
pub mod Micro
pub mod Strides
pub mod Decoding
pub mod Storage
pub mod HeadsValue
pub mod Heads
pub mod Laying
pub mod Building
pub use Rattle.micro_op.specs.rv32_ops as rv32_ops
pub use Rattle.templates.specs.rv32_program as rv32_program
pub use Rattle.micro_op.specs.byte_range as byte_range
pub use Rattle.micro_op.specs.rv32_step as rv32_step
pub use Rattle.micro_op.specs as micro_op
pub use Rattle.runtime_words.specs as runtime_words
pub use Rattle.templates.specs as templates
