pub mod MemoryLemmas
pub mod ShelfLemmas
