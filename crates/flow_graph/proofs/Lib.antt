mod CodeLemmas
pub mod WordLemmas
