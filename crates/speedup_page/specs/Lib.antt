pub mod Rows
pub mod Frame
pub mod Chart
pub mod Bars
pub mod Table
pub mod Page
