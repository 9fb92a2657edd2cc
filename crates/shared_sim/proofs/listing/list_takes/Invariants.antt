use Rattle.std.proofs.Common.{◌≡◌, ◌+◌, ◌≤◌, ◌++◌, length, map}
use Rattle.std.specs.Prelude.{filter}
use Rattle.std.specs.List.{range_with_len}
use Rattle.std.specs.Vec.{vec_capacity}
use Rattle.dsm_core.specs.node_model.Core.{Take}
use Rattle.dsm_core.specs.CoreParts.{work_of, core_of, event_of}
use Rattle.shared_sim.specs.ByOrder.{is_allowed}
use Rattle.shared_sim.proofs.listing.list_takes.Given as goal

abbrev pub invariant-loop-from : goal.invariant-loop-from
invariant-loop-from l = record {
  listed : map event_of l.events.items ≡ map event_of l.initial.events.items
      ++ filter (is_allowed (work_of l.core) (core_of l.core)) (map (λ j. Take l.node j) (range_with_len 0 l.from));
  few : length l.events.items ≤ length l.initial.events.items + l.from;
  room : vec_capacity l.events ≡ vec_capacity l.initial.events;
}
