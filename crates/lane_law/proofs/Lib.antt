pub mod Names
-- Several processors on a node: their code, what they share, one event, runs, and progress.
mod LaneNumbers
mod Anew
mod LaneCode
mod LaneMessages
mod LaneWants
mod LaneWaits
mod LaneMatching
mod LaneTaking
mod LaneDirectory
mod LaneTies
mod LaneCores
mod LaneWords
mod LaneTakes
mod LaneRuns
mod LaneClosing
mod LaneStuck
mod LaneBudgets
mod LaneShort
mod LaneFollows
