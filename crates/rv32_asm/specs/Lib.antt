pub mod Assembling
pub mod Listed
pub mod Pieces
pub mod Places
pub mod Rules
pub mod Standing
