mod Lists
mod Silents
mod Takes
pub mod Traces
pub mod Ways
