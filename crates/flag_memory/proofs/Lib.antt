pub mod Places
pub mod Words
pub mod Blocks
pub mod Contents
