use Rattle.std.proofs.Common.{sym, subst}
use Rattle.time_machine.specs.Checkpoints.{AreOfRun}
use Rattle.time_machine.proofs.Kept.{one_pushed}
use Rattle.time_machine.proofs.checkpoints.push.Goals as goal

pub returns-clause-of_run : goal.returns-clause-of_run
returns-clause-of_run c = λ r are at.
    subst (AreOfRun r) (sym c.in_ok-push.ensures.items)
    (one_pushed r c.args.kept.now.items c.in_ok-checkpoint.checkpoint are (c.in_ok-checkpoint.ensures.of_run r at))

pub returns-in_err-push-clause-of_run : goal.returns-in_err-push-clause-of_run
returns-in_err-push-clause-of_run c = λ r are at. subst (AreOfRun r) (sym c.in_err-push.ensures.items) are
