use Rattle.std.proofs.Common.{◌∙◌}
use Rattle.check_costs.proofs.Tallying.{none_tallied}
use Rattle.check_costs.proofs.tally.Tally.new.Goals as goal

pub returns : goal.returns
returns c = c.in_ok-counts.ensures ∙ none_tallied c.args.functions
