pub mod Layout
pub mod Update
pub mod Text
pub mod Index
pub mod Parts
pub mod Reading
