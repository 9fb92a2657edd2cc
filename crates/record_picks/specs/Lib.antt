pub mod Picks
pub mod Seen
