mod Picks
mod Started
mod Touches
mod Moved
mod Kept
