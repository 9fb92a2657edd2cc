-- The kinds and the tallies are those of the code.
use Rattle.std.proofs.Common.{refl}
use Rattle.dsm_core.specs.CoreParts.{work_in}
use Rattle.timed_sim.proofs.counting.StepCount.new.Goals as goal

pub returns-clause-counts : goal.returns-clause-counts
returns-clause-counts c = record {
  plan_is = refl;
  kinds = c.in_ok-kinds.ensures (work_in c.args.work.now).program c.requires.code;
  tallies = c.in_ok-tallies.ensures.value;
  table = c.in_ok-tallies.ensures.table;
}
