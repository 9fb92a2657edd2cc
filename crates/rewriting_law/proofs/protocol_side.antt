-- What the protocol's side of the law has to give, and the directory protocol as that side: by
-- lists of `coherence`.
pub mod ProtocolSide
pub mod Directory
pub mod Spending
pub mod Blocks
pub mod Worlds
pub mod CountedBlocks
pub mod DirectorySide
pub mod Start
pub mod MissCosts
