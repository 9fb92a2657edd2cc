use Rattle.std.proofs.Common.{sym}
use Rattle.liveness.proofs.SetLemmas.{unneeded_all}
use Rattle.liveness.proofs.sets.unneeded.Goals as goal

pub returns-else-leaves_code : goal.returns-else-leaves_code
returns-else-leaves_code c = record {
  value = unneeded_all c.args.i.now c.args.node.now c.args.sets.now c.set_after.result c.set_after.type_inv (sym c.if-leaves_code.ensures.value) c.set_after.ensures.value;
}
