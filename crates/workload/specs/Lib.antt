pub mod Assembler
pub mod Generated
