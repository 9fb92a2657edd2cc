-- By the first message.
use Rattle.std.proofs.Common.{◌∙◌, ap, inl, inr, sym}
use Rattle.lane_model.specs.Core.{lowers_first}
use Rattle.smp_sim.proofs.steps.takes_away_first.Goals as goal

pub returns-in-Some : goal.returns-in-Some
returns-in-Some c = λ yes. inr (ap lowers_first c.in-Some.ensures.value.1 ∙ sym c.takes_away.ensures ∙ yes)

pub returns-in-None : goal.returns-in-None
returns-in-None c = λ yes. inl c.in-None.ensures.value
