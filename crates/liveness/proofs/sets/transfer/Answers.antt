use Rattle.liveness.proofs.SetLemmas.{transfer_member}
use Rattle.liveness.proofs.sets.transfer.Goals as goal

pub returns : goal.returns
returns c = record { value = λ r l. transfer_member c.args.uses c.args.defs c.args.after r c.ranges.defs.fits l }
