use Rattle.liveness.proofs.SetLemmas.{both_member}
use Rattle.liveness.proofs.sets.set_after.Goals as goal

pub returns : goal.returns
returns c = record { value = λ r. both_member c.args.node.now c.args.sets.now _ _ r c.set_of.ensures.value c.set_of-2.ensures.value }
