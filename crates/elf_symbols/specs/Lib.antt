pub mod Symbols
pub mod Given
pub mod Shown
