mod Fitting
mod EachRow
pub mod Groups
pub mod Reading
mod Whole
pub mod Rebuilt
pub mod Again
pub mod Apart
pub mod Members
pub mod Custom
pub mod Ranges
