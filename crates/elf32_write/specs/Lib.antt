pub mod Layout
pub mod Writable
pub mod Room
