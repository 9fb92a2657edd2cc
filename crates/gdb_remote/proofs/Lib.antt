pub mod Hexadecimals
pub mod PacketsRead
pub mod WordsFound
