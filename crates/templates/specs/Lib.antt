pub mod Code
pub mod Places
pub mod Runs
pub mod Reaches
pub mod Plans
pub mod WholePlan
pub mod Sequences
pub mod Expansion
pub mod Commits
pub mod Writing
pub mod Committing
pub mod Counting
pub mod Candidates
pub mod Numbers
pub use Rattle.rv32_program.specs as rv32_program
