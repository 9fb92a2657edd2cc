use Rattle.std.proofs.Common.{◌≡◌, ℕ, ◌<◌, ◌≤◌, ◌∙◌, sym, subst, ap, true, length}
use Rattle.debugged_run.specs.Motions.{watches, point_met}
use Rattle.time_machine.specs.Stand.{Run}
use Rattle.debugged_run.proofs.Ends.{pick_comes}
use Rattle.debugged_run.proofs.run.DebuggedRun.backwards.Goals as goal

pub go_behind_access-requires : goal.go_behind_access-requires
go_behind_access-requires c = λ watch.
    let first = c.self.inside.machine in
    let within : first.position ≤ length first.run.picks =
    subst (λ (n : ℕ). n ≤ length first.run.picks) c.position-from.ensures.value c.position-from.ensures.within in
    let met : watches (point_met c.args.reach c.args.points.now c.in_ok-hit.hit) ≡ true =
    sym (ap watches c.point_met-point.ensures) ∙ watch in
    let hit = c.in_ok-hit.ensures.ends in
    let end = c.back_to_stop.new.self.position in
    let comes : end < length first.run.picks =
    pick_comes first.run c.args.reach c.args.points.now c.deref.result.now first.position c.in_ok-hit.hit end
    within hit met in
    subst (λ (r : Run). end < length r.picks) (sym c.in_ok-hit.ensures.run) comes
