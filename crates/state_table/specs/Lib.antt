pub mod StateByte
pub mod LineClasses
pub mod States
pub mod Fill
