pub mod Kinds
pub mod Counts
pub mod Tally
pub mod Given
pub mod Sweep
pub mod Text
pub use Rattle.elf_symbols.specs as elf_symbols
