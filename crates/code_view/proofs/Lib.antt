pub mod Lines
mod Marks
