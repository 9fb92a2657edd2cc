pub mod Program
pub mod Targets
pub mod Liveness
