pub mod Clock
pub mod Stored
pub mod Stretches
pub mod Tallied
pub mod Counted
