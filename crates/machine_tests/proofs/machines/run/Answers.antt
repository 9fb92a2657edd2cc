use Rattle.std.proofs.Common.{◌∙◌}
use Rattle.machine_tests.proofs.machines.run.Goals as goal

pub returns-in_err-step : goal.returns-in_err-step
returns-in_err-step c = c.step.ensures.original ∙ c.loop.invariant

pub loop-preserved : goal.loop-preserved
loop-preserved c = c.step.ensures.original ∙ c.loop.invariant
