pub mod Text
pub mod Answers
pub mod Failures
