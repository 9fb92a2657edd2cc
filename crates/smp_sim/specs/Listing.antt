-- Helps the code alone: events of processors and nodes that are there.
use Rattle.std.specs.Prelude.{◌<◌}
use Rattle.lane_model.specs.Nodes.{LaneWork, processors}
use Rattle.lane_model.specs.Core.{LaneEvent, Exec, Take}

-- the event is of one of the processors, or of two of the nodes
abbrev pub IsThere : LaneWork → LaneEvent → Type 0
IsThere w (Exec p) = p < processors w
IsThere w (Take i j) = (i < w.work.layout.nodes) × (j < w.work.layout.nodes)
