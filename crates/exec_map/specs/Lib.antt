pub mod Contents
pub mod Refusals
pub mod Index
pub mod SharedLines
pub mod Ranges
pub use Rattle.rv32_program.specs as rv32_program
pub use Rattle.byte_range.specs as byte_range
