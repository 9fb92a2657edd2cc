pub mod Text
pub mod Processors
pub mod Outcomes
pub mod Interleaved
pub mod WholeRuns
pub mod Replays
pub mod Ready
