use Rattle.std.proofs.Common.{sym, subst, arith}
use Rattle.time_machine.specs.Checkpoints.{AreOfRun}
use Rattle.time_machine.proofs.Kept.{one_gone}
use Rattle.time_machine.proofs.checkpoints.thin.Goals as goal

pub loop-place-preserved : goal.loop-place-preserved
loop-place-preserved c =
    let l = c.loop-place in
    record {
      of_run = λ r are. subst (AreOfRun r) (sym c.remove.ensures.items) (one_gone r l.kept.items l.place (l.invariant.of_run r are));
      half = omega (arith, l.invariant.half, c.remove.ensures.len);
    }
