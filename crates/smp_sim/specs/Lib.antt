pub mod CoreParts
pub mod CoreSteps
pub mod ByOrder
pub mod Listing
pub mod Turns
pub mod InUse
