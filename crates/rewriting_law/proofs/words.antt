-- Where a node stands in its code, and what its next word does: the code's side of the law.
pub mod Plans
pub mod Fetching
pub mod Spots
pub mod Idle
pub mod Turns
pub mod Standing
pub mod Paces
pub mod Requests
pub mod Lanes
pub mod Moves
pub mod BlocksOnce
pub mod CodeSide
pub mod NextWord
pub mod CodeFollows
