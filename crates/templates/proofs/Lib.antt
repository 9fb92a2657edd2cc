pub mod SearchLemmas
pub mod CodeLemmas
pub mod PlaceLemmas
pub mod ReachLemmas
pub mod RunLemmas
pub mod BatchLemmas
pub mod ExpandLemmas
pub mod CommitLemmas
