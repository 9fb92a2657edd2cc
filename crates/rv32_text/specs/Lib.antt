pub mod Growth
pub mod Listing
pub mod Telling
