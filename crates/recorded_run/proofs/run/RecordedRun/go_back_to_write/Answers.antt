-- Before the last write, or at the start.
use Rattle.std.proofs.Common.{◌≡◌, None, ap, ◌∙◌}
use Rattle.std.proofs.lemmas.Result.{IfOk-weaker}
use Rattle.debugged_run.specs.Motions.{mover_at}
use Rattle.recorded_run.specs.Shown.{Recorded}
use Rattle.recorded_run.specs.Tells.{GoesBackToWrite, write_text}
use Rattle.recorded_run.proofs.Showing.{goes_back, holds_moved, shown_by}
use Rattle.recorded_run.proofs.run.RecordedRun.go_back_to_write.Goals as goal

pub invariant_of-self : goal.invariant_of-self
invariant_of-self c =
    let i = c.self.inside in
    holds_moved i.debugged i.work i.plan.now i.code.now i.kept.now i.walk i.behind c.self.invariant _ c.back_to_stop.ensures.run

pub invariant_of-self-2 : goal.invariant_of-self-2
invariant_of-self-2 c =
    let i = c.self.inside in
    holds_moved i.debugged i.work i.plan.now i.code.now i.kept.now i.walk i.behind c.self.invariant _ c.back_to_stop.ensures.run

pub returns : goal.returns
returns c =
    let s = c.args.self.now in
    let i = c.self.inside in
    let a = c.args.address in
    let d = c.back_to_stop.new.self in
    let hit = c.in_ok-hit.hit in
    IfOk-weaker c.write_text.result (λ text. text.items ≡ write_text hit c.mover_at-processor.result)
    (λ told. GoesBackToWrite s a told.items (shown_by d i.work i.plan.now i.kept.now None))
    (λ told is. goes_back s i.debugged d a hit told.items (shown_by d i.work i.plan.now i.kept.now None) (ap (λ (s : Recorded). s.stand) c.self.view_is)
    c.in_ok-hit.ensures.run c.in_ok-hit.ensures.ends
    (is ∙ ap (write_text hit) (c.mover_at-processor.ensures ∙ ap (mover_at c.picks.result.now) c.position-position.ensures.value
    ∙ ap (λ ps. mover_at ps d.position) c.picks.ensures))
    (ap (λ (s : Recorded). record s { stand = d; behind = None }) c.self.view_is))
    c.write_text.ensures
