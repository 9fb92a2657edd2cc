pub mod Transcripts
pub mod Ends
pub mod Parts
