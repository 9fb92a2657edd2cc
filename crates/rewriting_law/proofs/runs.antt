-- Core runs beside runs of the original.
pub mod Turns
pub mod TurnTies
pub mod Behind
pub mod Composed
pub mod Follows
pub mod Alone
pub mod Losses
