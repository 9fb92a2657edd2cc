pub mod Micro
pub mod Kinds
pub use Rattle.rv32_step.specs.rv32_ops as rv32_ops
pub use Rattle.rv32_step.specs.byte_range as byte_range
pub use Rattle.rv32_step.specs as rv32_step
