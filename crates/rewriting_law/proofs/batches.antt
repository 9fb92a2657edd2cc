-- What the batch of a run does: its head, its fast part and its fallback.
pub mod RunStretches
pub mod RunLines
pub mod RunWords
pub mod RunDoes
