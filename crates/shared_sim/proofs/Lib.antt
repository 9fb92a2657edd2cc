pub mod Choices
pub mod Places
pub mod Rows
pub mod Turns
pub mod Windows
