-- How many steps were made says nothing of the code.
use Rattle.timed_sim.proofs.counting.StepCount.add.Goals as goal

pub returns-clause-counts : goal.returns-clause-counts
returns-clause-counts c = λ work plan counts. record {
  plan_is = counts.plan_is;
  kinds = counts.kinds;
  tallies = counts.tallies;
  table = counts.table;
}
