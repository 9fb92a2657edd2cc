pub mod FileLemmas
pub mod SizeLemmas
mod RunLemmas
