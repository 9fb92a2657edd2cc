use Rattle.std.proofs.Common.{◌≡◌, ◌+◌, ◌*◌, ◌≤◌, ◌++◌, length, map}
use Rattle.std.specs.Prelude.{filter}
use Rattle.std.specs.List.{flat_map, range_with_len}
use Rattle.std.specs.Vec.{vec_capacity}
use Rattle.lane_model.specs.Nodes.{processors}
use Rattle.lane_model.specs.Core.{Exec}
use Rattle.smp_sim.specs.CoreParts.{core_of, event_of, work_of}
use Rattle.smp_sim.specs.ByOrder.{is_allowed, takes_at}
use Rattle.smp_sim.proofs.listing.list_events.Given as goal

abbrev pub invariant-loop-processor : goal.invariant-loop-processor
invariant-loop-processor l = record {
  listed : map event_of l.events.items
      ≡ filter (is_allowed (work_of l.core) (core_of l.core)) (map (λ p. Exec p) (range_with_len 0 l.processor));
  few : length l.events.items ≤ l.processor;
  room : vec_capacity l.events ≡ vec_capacity l.fn.events;
}

abbrev pub invariant-loop-node : goal.invariant-loop-node
invariant-loop-node l = record {
  listed : map event_of l.events.items ≡ filter (is_allowed (work_of l.core) (core_of l.core))
      (map (λ p. Exec p) (range_with_len 0 (processors (work_of l.core))))
      ++ filter (is_allowed (work_of l.core) (core_of l.core))
      (flat_map (takes_at l.core.layout.nodes) (range_with_len 0 l.node));
  few : length l.events.items ≤ 16 + 16 * l.node;
  room : vec_capacity l.events ≡ vec_capacity l.fn.events;
}
