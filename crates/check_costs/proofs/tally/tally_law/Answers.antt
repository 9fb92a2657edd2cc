use Rattle.check_costs.proofs.Tallying.{totals_are}
use Rattle.check_costs.proofs.tally.tally_law.Goals as goal

pub returns : goal.returns
returns c = record { sums = totals_are }
