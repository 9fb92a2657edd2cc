pub mod HeaderSearch
pub mod Judging
pub mod ContentsLemmas
pub mod LimitsLemmas
mod NameEndsLemmas
