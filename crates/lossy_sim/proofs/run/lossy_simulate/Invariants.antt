use Rattle.std.proofs.Common.{◌≡◌}
use Rattle.dsm_core.specs.CoreParts.{work_of, work_in}
use Rattle.lossy_sim.specs.Runs.{IsReady}
use Rattle.lossy_sim.proofs.Running.{IsOnItsWay}
use Rattle.lossy_sim.proofs.run.lossy_simulate.Given as goal

abbrev pub invariant-loop-turn : goal.invariant-loop-turn
invariant-loop-turn l = record {
  ready : IsReady l.run;
  work : work_of l.run.parts ≡ work_in l.fn.work;
  way : IsOnItsWay (work_in l.fn.work) l.fn.order l.fn.loss l.turn l.run;
}
