pub mod Lists
pub mod Reading
pub mod Record
pub mod Rules
pub mod Telling
pub mod Text
