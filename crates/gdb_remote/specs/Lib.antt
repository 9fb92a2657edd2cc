pub mod Frames
pub mod Hexadecimal
pub mod Readings
pub mod Requests
pub mod Words
