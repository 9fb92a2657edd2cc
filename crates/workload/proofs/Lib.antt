pub mod CodeBytes
pub mod Groups
