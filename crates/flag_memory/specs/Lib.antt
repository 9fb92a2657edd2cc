pub mod Flag
pub mod FirstBytes
pub mod Ranges
pub mod Copy
pub mod Bytes
pub use Rattle.byte_range.specs as byte_range
