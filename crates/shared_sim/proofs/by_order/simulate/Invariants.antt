use Rattle.std.proofs.Common.{◌≡◌}
use Rattle.dsm_core.specs.node_model.Core.{opening_core}
use Rattle.dsm_core.specs.CoreParts.{work_of, work_in, core_of}
use Rattle.shared_sim.specs.Turns.{IsReady, LeadsOn}
use Rattle.shared_sim.proofs.by_order.simulate.Given as goal

abbrev pub invariant-loop-turn : goal.invariant-loop-turn
invariant-loop-turn l = record {
  ready : IsReady l.run;
  work : work_of l.run.core ≡ work_in l.fn.work;
  leads : LeadsOn (work_of l.run.core) l._turn l.order (opening_core (work_of l.run.core)) l.run.order (core_of l.run.core);
}
