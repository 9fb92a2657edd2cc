pub mod Asks
pub mod Commands
pub mod Costs
pub mod Meaning
pub mod Tasks
pub mod Reading
pub mod Table
pub mod Views
