pub mod LineSearch
pub mod Blocks
