pub mod Digits
mod Fields
pub mod Growing
pub mod LineFeeds
mod NoFault
pub mod Passing
pub mod Told
pub mod Whole
