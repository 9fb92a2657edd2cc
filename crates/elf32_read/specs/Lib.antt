pub mod Elf
pub mod Fields
pub mod Reading
pub mod NameEnds
pub mod Refusals
pub mod Segments
pub mod Judging
