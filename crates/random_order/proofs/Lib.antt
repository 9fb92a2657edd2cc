pub mod Often
pub mod Reciprocal
pub mod Turns
