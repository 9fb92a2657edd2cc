pub mod Rows
pub mod Works
pub mod Mesh
pub mod Crew
pub mod Races
