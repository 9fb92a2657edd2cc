pub mod Names
pub mod Plans
pub mod Words
pub mod Code
