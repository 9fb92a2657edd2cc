pub mod Memory
pub mod Range
pub mod Window
pub mod Lines
pub mod Pieces
