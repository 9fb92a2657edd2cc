mod Entering
mod Kinded
mod Counting
mod WordEnds
mod Meets
mod TakeEnds
mod Silent
pub mod Tracings
mod Visited
pub mod StepCounts
mod Passes
pub mod Wholes
