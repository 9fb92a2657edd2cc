-- What a run of nodes of several processors gives: the bytes printed, how each processor ended, and
-- what each node counted over its lanes.
use Rattle.std.specs.Prelude.{◌≡◌, List, Option, Some, map}
use Rattle.std.specs.List.{range_with_len}
use Rattle.rv32_program.specs.declared.End.{End}
use Rattle.node_model.specs.declared.NodeCounts.{NodeCounts}
use Rattle.node_model.specs.Node.{end_of}
use Rattle.node_model.specs.Outcome.{Outcome}
use Rattle.lane_model.specs.Nodes.{LaneWork, processors, node_of, lane_of}
use Rattle.lane_model.specs.Core.{LaneEvent, opening_core, after, printed_by}

-- the ends of the processors after the events, of which one that goes on has none
abbrev pub ends_after : LaneWork → List LaneEvent → List (Option End)
ends_after w events =
    map (λ p. end_of
    (((after w (opening_core w) events).nodes (node_of w p)).lanes (lane_of w p)).phase)
    (range_with_len 0 (processors w))

abbrev pub counts_after : LaneWork → List LaneEvent → List NodeCounts
counts_after w events =
    map (λ i. ((after w (opening_core w) events).nodes i).shared.counts)
    (range_with_len 0 w.work.layout.nodes)

-- what the events give from the start, once each processor has ended: the bytes in the order of the
-- events
pub record IsLaneOutcomeOf (w : LaneWork) (events : List LaneEvent) (o : Outcome) : Type 0 where
  pub output : o.output ≡ printed_by w (opening_core w) events
  pub ends : ends_after w events ≡ map (λ e. Some e) o.ends
  pub counts : o.counts ≡ counts_after w events
