-- One word more.
use Rattle.std.proofs.Common.{arith}
use Rattle.std.proofs.lemmas.Grind.{common_steps}
use Rattle.run_trace.proofs.kinds.CommitKinds.tallies.Goals as goal

pub loop-kind-preserved : goal.loop-kind-preserved
loop-kind-preserved c = record {
  value = grind (arith, common_steps);
  table = c.push.ensures.table c.args.image.now c.loop-kind.invariant.table;
}
