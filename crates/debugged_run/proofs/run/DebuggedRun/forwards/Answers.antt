use Rattle.std.proofs.Common.{◌≡◌, refl, sym, ◌∙◌}
use Rattle.std.proofs.lemmas.Result.{IfOk-weaker}
use Rattle.std.specs.Prelude.{None}
use Rattle.gdb_remote.specs.declared.request.Direction.TheVariants.{Forwards}
use Rattle.debugged_run.specs.Motions.{Goes, GoesFrom, place_here}
use Rattle.debugged_run.proofs.Ends.{goes_from_here, stays_here}
use Rattle.debugged_run.proofs.run.DebuggedRun.forwards.Goals as goal

pub returns-in-Some-clause-goes : goal.returns-in-Some-clause-goes
returns-in-Some-clause-goes c =
    let s = c.args.self.now in
    stays_here s.run c.args.reach c.args.points.now s.position c.in-Some.point c.told_here.result s.position
    (sym c.in-Some.is ∙ c.in_ok-point.ensures) c.told_here.ensures refl

pub returns-in-None-clause-goes : goal.returns-in-None-clause-goes
returns-in-None-clause-goes c =
    let s = c.args.self.now in
    let t = c.forwards_from_here.new.self in
    let none : None ≡ place_here s.run c.args.reach c.args.points.now s.position =
    sym c.in-None.is ∙ c.in_ok-point.ensures in
    IfOk-weaker c.forwards_from_here.result
    (λ stop. GoesFrom None s.run c.args.reach c.args.points.now s.position stop t.position)
    (λ stop. Goes Forwards s.run c.args.reach c.args.points.now s.position stop t.position)
    (λ stop goes. goes_from_here s.run c.args.reach c.args.points.now s.position stop t.position none goes)
    c.forwards_from_here.ensures.goes
