pub mod Counts
pub mod Order
pub mod Sharing
pub mod Text
pub mod Writers
pub mod Kept
pub use Rattle.event_text.specs as event_text
