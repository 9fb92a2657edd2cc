use Rattle.std.proofs.Common.{◌≡◌, ◌+◌, ◌≤◌, ◌++◌, true, length, map}
use Rattle.std.specs.Prelude.{filter}
use Rattle.std.specs.List.{range_with_len}
use Rattle.std.specs.Vec.{vec_capacity}
use Rattle.node_model.specs.Node.{Work, standing_of}
use Rattle.node_model.specs.Core.{Take, may_take}
use Rattle.dsm_core.specs.CoreParts.{event_of}
use Rattle.lossy_sim.specs.Stored.{link_at}
use Rattle.lossy_sim.specs.WithLoss.{State, is_allowed}
use Rattle.lossy_sim.proofs.listing.list_takes.Given as goal

abbrev pub invariant-loop-from : goal.invariant-loop-from
invariant-loop-from l = record {
  listed : (work : Work) (s : State) → s.links ≡ link_at l.links l.count
      → may_take (standing_of work (s.nodes l.node)) ≡ true
      → map event_of l.events.items ≡ map event_of l.initial.events.items
      ++ filter (is_allowed work s) (map (λ j. Take l.node j) (range_with_len 0 l.from));
  few : length l.events.items ≤ length l.initial.events.items + l.from;
  room : vec_capacity l.events ≡ vec_capacity l.initial.events;
}
