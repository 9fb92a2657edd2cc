pub mod Places
pub mod Prefix
