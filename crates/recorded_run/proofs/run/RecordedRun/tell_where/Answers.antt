-- What is told of the run, and of the last event.
use Rattle.std.proofs.Common.{◌≡◌, ◌++◌, Option, sym, ap, ◌∙◌}
use Rattle.debugged_run.specs.Commands.{where_text}
use Rattle.debugged_run.specs.time_machine.Stand.{Stand}
use Rattle.recorded_run.specs.Shown.{Recorded}
use Rattle.recorded_run.specs.Tells.{last_text, stand_text}
use Rattle.recorded_run.specs.declared.walk.LastEvent.{LastEvent}
use Rattle.recorded_run.proofs.Showing.{along_none, kept_again, last_there, looks}
use Rattle.recorded_run.proofs.run.RecordedRun.tell_where.Goals as goal

pub keep-requires : goal.keep-requires
keep-requires c =
    let s = c.args.self.now in
    let w = c.in_ok-walk.walk in
    let stands = c.in_ok-walk.ensures.stands in
    record {
      along = along_none s c.take_walk.new.self w c.in_ok-walk.ensures.run stands.along;
      walking = (stands.seen, stands.walked);
      there = λ e is. last_there s w stands e (sym (ap (λ (s : Recorded). s.behind) c.self.view_is) ∙ is);
    }

pub returns : goal.returns
returns c =
    let s = c.args.self.now in
    let w = c.in_ok-walk.walk in
    let stands = c.in_ok-walk.ensures.stands in
    let here : c.self-2.inside.debugged ≡ s.stand =
    ap (λ (s : Recorded). s.stand) (c.self-2.view_is ∙ c.in_ok-walk.ensures.run) in
    let where_is = c.in_ok-text.ensures ∙ ap (λ (d : Stand). where_text d.run.picks d.position) here in
    let text = where_text s.stand.run.picks s.stand.position in
    looks s _ w (stand_text s) _ stands
    (c.in_ok-push_last.ensures ∙ ap (λ t. t ++ last_text c.last.result) where_is
    ∙ ap (λ (o : Option LastEvent). text ++ last_text o) (c.last.ensures ∙ stands.walked.last_is))
    (kept_again s c.take_walk.new.self _ c.self.inside.behind c.in_ok-walk.ensures.run c.keep.ensures
    (ap (λ (s : Recorded). s.behind) c.self.view_is))
