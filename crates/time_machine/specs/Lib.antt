pub mod Stand
pub mod Stops
pub mod Moves
pub mod Hits
pub mod Checkpoints
