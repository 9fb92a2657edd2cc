use Rattle.std.proofs.Common.{None, refl, ap}
use Rattle.std.proofs.lemmas.Result.{IfOk-weaker}
use Rattle.debugged_run.specs.Motions as of_run
use Rattle.recorded_run.specs.Shown.{Recorded}
use Rattle.recorded_run.specs.Tells.{Moves}
use Rattle.recorded_run.proofs.Showing.{holds_moved, moves_there, shown_by}
use Rattle.recorded_run.proofs.run.RecordedRunTarget.go.Goals as goal

pub invariant_of-self : goal.invariant_of-self
invariant_of-self c =
    let i = c.self.inside in
    holds_moved i.debugged i.work i.plan.now i.code.now i.kept.now i.walk i.behind c.self.invariant _ c.go_on.ensures.run

pub returns : goal.returns
returns c =
    let s = c.args.self.now in
    let i = c.self.inside in
    let d = c.go_on.new.self in
    let t = shown_by d i.work i.plan.now i.kept.now None in
    IfOk-weaker c.go_on.result (λ stop. of_run.Moves i.debugged c.args.motion c.args.points.now stop d)
    (λ stop. Moves s c.args.motion c.args.points.now stop t)
    (λ stop moves. moves_there s i.debugged d c.args.motion c.args.points.now stop t
    (ap (λ (s : Recorded). s.stand) c.self.view_is) moves
    (ap (λ (s : Recorded). record s { stand = d; behind = None }) c.self.view_is) refl)
    c.go_on.ensures.moves
