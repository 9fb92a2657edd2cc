pub mod Registers
pub mod Demands
pub mod Memory
pub mod Reservations
pub mod Breaks
pub mod OneMemory
pub use Rattle.rv32_ops.specs as rv32_ops
pub use Rattle.rv32_program.specs as rv32_program
pub use Rattle.byte_range.specs as byte_range
