pub mod Squares
pub mod Sending
