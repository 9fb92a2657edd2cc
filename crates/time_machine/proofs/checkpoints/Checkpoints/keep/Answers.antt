use Rattle.std.proofs.Common.{sym, subst}
use Rattle.time_machine.specs.Checkpoints.{AreOfRun}
use Rattle.time_machine.proofs.checkpoints.Checkpoints.keep.Goals as goal

pub returns-then-full : goal.returns-then-full
returns-then-full c = λ r are at. c.thin.ensures.of_run r (subst (AreOfRun r) (sym c.self.view_is) are)

pub returns-else-full : goal.returns-else-full
returns-else-full c = λ r are at. c.push-kept.ensures.of_run r (subst (AreOfRun r) (sym c.self.view_is) are) at
