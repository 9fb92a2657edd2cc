use Rattle.std.proofs.Common.{◌≡◌, ℕ, ◌+◌, ◌*◌, ◌≤◌, length, map}
use Rattle.std.specs.Prelude.{filter}
use Rattle.std.specs.List.{flat_map, range_with_len}
use Rattle.std.specs.Vec.{vec_capacity}
use Rattle.node_model.specs.Node.{Work}
use Rattle.dsm_core.specs.CoreParts.{event_of, HaveWork}
use Rattle.shared_sim.specs.ByOrder.{events_at}
use Rattle.lossy_sim.specs.Stored.{state_of}
use Rattle.lossy_sim.specs.WithLoss.{is_allowed}
use Rattle.lossy_sim.proofs.listing.list.Given as goal

abbrev pub invariant-loop-node : goal.invariant-loop-node
invariant-loop-node l = record {
  listed : (work : Work) (order losses : ℕ) → work.layout.nodes ≡ l.count → HaveWork work l.nodes
      → map event_of l.events.items
      ≡ filter (is_allowed work (state_of work l.nodes l.links order losses))
      (flat_map (events_at l.count) (range_with_len 0 l.node));
  few : length l.events.items ≤ l.node * (1 + l.count);
  room : vec_capacity l.events ≡ vec_capacity l.fn.events;
}
