use Rattle.std.proofs.Common.{◌≡◌, ◌+◌, ◌≤◌, ◌++◌, length, map}
use Rattle.std.specs.Prelude.{filter}
use Rattle.std.specs.Vec.{vec_capacity}
use Rattle.smp_sim.specs.CoreParts.{core_of, event_of, work_of}
use Rattle.smp_sim.specs.ByOrder.{is_allowed, takes_at}
use Rattle.smp_sim.proofs.listing.list_takes.Given as goal

abbrev pub invariant-loop-from : goal.invariant-loop-from
invariant-loop-from l = record {
  listed : map event_of l.events.items ≡ map event_of l.initial.events.items
      ++ filter (is_allowed (work_of l.core) (core_of l.core)) (takes_at l.from l.node);
  few : length l.events.items ≤ length l.initial.events.items + l.from;
  room : vec_capacity l.events ≡ vec_capacity l.initial.events;
}
