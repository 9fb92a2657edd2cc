pub mod Walks
mod Searches
mod Adds
mod Escapes
