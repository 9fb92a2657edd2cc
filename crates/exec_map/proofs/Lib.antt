mod Halving
mod Merging
mod Looking
mod FirstBytes
mod Places
pub mod Judging
mod Accepting
mod Sharing
mod Ordering
mod Words
mod LineCounts
mod Overlaps
mod Filtering
mod Meeting
mod LineLemmas
