-- Words, wants and messages of nodes beside the steps of the original on one memory.
pub mod Originals
pub mod Sharing
pub mod Advances
pub mod SharedWords
pub mod OneEach
pub mod Messages
pub mod Pending
pub mod Wants
pub mod Matching
