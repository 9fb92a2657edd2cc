-- That core runs go on, and how long they can.
pub mod Farewells
pub mod Calm
pub mod Closing
pub mod Stuck
pub mod Stops
pub mod Budgets
pub mod Short
pub mod Costs
pub mod Steps
pub mod Ascending
