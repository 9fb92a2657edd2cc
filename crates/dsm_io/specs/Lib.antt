pub mod Causes
pub mod Memory
pub mod Pairs
pub mod Schedule
pub mod States
