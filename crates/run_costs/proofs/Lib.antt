mod Counted
mod Labels
mod Visited
mod Whole
mod Words
