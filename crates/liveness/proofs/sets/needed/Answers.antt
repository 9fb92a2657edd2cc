use Rattle.liveness.proofs.SetLemmas.{needed_member}
use Rattle.liveness.proofs.sets.needed.Goals as goal

pub returns : goal.returns
returns c = record { value = λ r l. needed_member c.args.node.now c.args.sets.now _ r _ (c.set_after.ensures.value r) (c.transfer.ensures.value r l) }
