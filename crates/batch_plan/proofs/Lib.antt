mod ReachLemmas
mod StretchLemmas
mod StepLemmas
mod RunLemmas
mod ScratchLemmas
mod BatchLemmas
