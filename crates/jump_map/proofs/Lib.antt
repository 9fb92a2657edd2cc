mod SearchLemmas
mod HeadLemmas
mod CellLemmas
mod LayingLemmas
mod ExpansionLemmas
mod StartLemmas
mod MicroLemmas
mod SequenceLemmas
pub mod ImageLemmas
mod NearLemmas
