use Rattle.std.proofs.Common.{◌≡◌, ◌≤◌, map}
use Rattle.std.specs.Vec.{vec_capacity}
use Rattle.dsm_core.specs.CoreParts.{work_in}
use Rattle.smp_sim.specs.CoreParts.{core_of, event_of, work_of, work_with}
use Rattle.smp_sim.specs.ByOrder.{choices}
use Rattle.smp_sim.specs.Turns.{LeadsTo}
use Rattle.smp_sim.proofs.by_order.smp_simulate.Given as goal

abbrev pub invariant-loop-turn : goal.invariant-loop-turn
invariant-loop-turn l = record {
  work : work_of l.core ≡ work_with (work_in l.fn.work) l.fn.lanes;
  room : 272 ≤ vec_capacity l.events;
  listed : map event_of l.events.items ≡ choices (work_of l.core) (core_of l.core);
  leads : LeadsTo l.fn.order l._turn l.order l.core;
}
