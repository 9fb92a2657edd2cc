pub mod Marks
pub mod Waits
pub mod Arrows
pub mod Rows
pub mod Blocks
pub mod Frame
pub mod Figure
pub mod Page
pub use Rattle.page_events.specs as page_events
