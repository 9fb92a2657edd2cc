pub mod Hexadecimal
pub mod KindOf
pub mod OperandLaws
pub mod Told
