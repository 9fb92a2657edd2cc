use Rattle.std.proofs.Common.{◌≡◌, ◌≤◌, ◌*◌, ◌^◌}
use Rattle.dsm_core.specs.CoreParts.{work_of, work_in}
use Rattle.timed_sim.specs.Stored.{times_in, AreWithin, IsReady, moment_of, plan_in}
use Rattle.timed_sim.proofs.Running.{IsOnItsWay}
use Rattle.timed_sim.proofs.run.simulate_by_clock.Given as goal

abbrev pub invariant-loop-turn : goal.invariant-loop-turn
invariant-loop-turn l = record {
  ready : IsReady l.run;
  work : work_of l.run.core ≡ work_in l.fn.work;
  costs : l.run.costs ≡ l.fn.costs;
  plan : plan_in l.run ≡ l.fn.plan;
  within : AreWithin l.run.core.layout.nodes (2 ^ 26 * l._turn) (times_in l.run);
  few : l.run.count.steps ≤ 2 ^ 26 * l._turn;
  way : IsOnItsWay l.run.costs (work_of l.run.core) (plan_in l.run) l._turn (moment_of l.run);
}
