pub mod Costs
pub mod Counting
