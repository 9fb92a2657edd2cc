pub mod VisitLemmas
pub mod TableLemmas
pub mod PassLemmas
pub mod CountingLemmas
pub mod TallyLemmas
pub mod SteppingLemmas
