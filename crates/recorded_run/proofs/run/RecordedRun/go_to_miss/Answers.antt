-- Behind the next miss, or at the end.
use Rattle.std.proofs.Common.{◌≡◌, [], ◌∷◌, ◌++◌, length, Option, sym, ap, subst, ◌∙◌}
use Rattle.std.proofs.lemmas.Result.{IfOk-weaker}
use Rattle.event_text.specs.run_trace.Given.{traced_of}
use Rattle.event_text.specs.Events.{event_line}
use Rattle.recorded_run.specs.Shown.{Recorded}
use Rattle.recorded_run.specs.Tells.{TellsAs, no_miss_text}
use Rattle.recorded_run.specs.Walks.{GoesToNext, IsOfPicks}
use Rattle.recorded_run.specs.declared.command.Command.TheVariants.{Miss}
use Rattle.recorded_run.specs.declared.walk.LastEvent.{LastEvent}
use Rattle.recorded_run.proofs.Showing.{along_moved, along_none, along_on, goes_to_end, goes_to_miss, kept_there, moved_there, of_these, shown_by}
use Rattle.recorded_run.proofs.run.RecordedRun.go_to_miss.Goals as goal

pub go_to_miss-requires : goal.go_to_miss-requires
go_to_miss-requires c =
    let s = c.args.self.now in
    let i = c.self.inside in
    let w = c.in_ok-walk.walk in
    let stands = c.in_ok-walk.ensures.stands in
    let along = along_none s (shown_by i.debugged i.work i.plan.now i.kept.now i.behind) w
    (c.self.view_is ∙ c.in_ok-walk.ensures.run) stands.along in
    record {
      walking = (stands.seen, stands.walked);
      of_picks = subst (IsOfPicks w) (sym c.picks.ensures)
          (of_these i.debugged i.work i.plan.now i.code.now i.kept.now i.walk i.behind c.self.invariant w along);
    }

pub returns-in_default : goal.returns-in_default
returns-in_default c =
    let s = c.args.self.now in
    let i = c.self.inside in
    let w = c.in_ok-walk.walk in
    let u = c.go_to_miss.new.self in
    let d = c.go_to.new.self in
    let t : Recorded = shown_by i.debugged i.work i.plan.now i.kept.now i.behind in
    let h = c.in_ok-walk.ensures.stands in
    let none = c.self.view_is ∙ c.in_ok-walk.ensures.run in
    let next = subst (GoesToNext u h.seen) c.in_default.is (c.in_ok-event.ensures.goes h.seen h.walked) in
    let all : d.position ≡ length s.stand.run.picks =
    c.in_ok-go_to.ensures.ok ∙ ap length c.picks-end.ensures
    ∙ ap (λ (x : Recorded). length x.stand.run.picks) none in
    IfOk-weaker c.no_miss_text.result (λ text. text.items ≡ no_miss_text)
    (λ told. TellsAs s Miss told.items (shown_by d i.work i.plan.now i.kept.now i.behind))
    (λ told is. goes_to_end s _ w u told.items h c.in_ok-event.ensures.same next is
    (moved_there s t d (length s.stand.run.picks) none c.in_ok-go_to.ensures.run all))
    c.no_miss_text.ensures

pub keep-requires : goal.keep-requires
keep-requires c =
    let s = c.args.self.now in
    let i = c.self.inside in
    let w = c.in_ok-walk.walk in
    let u = c.go_to_miss.new.self in
    let d = c.go_to-2.new.self in
    let t : Recorded = shown_by i.debugged i.work i.plan.now i.kept.now i.behind in
    let h = c.in_ok-walk.ensures.stands in
    let none = c.self.view_is ∙ c.in_ok-walk.ensures.run in
    let next = subst (GoesToNext u h.seen) c.in-Some.is (c.in_ok-event.ensures.goes h.seen h.walked) in
    let there = c.in_ok-go_to-2.ensures.ok ∙ c.picks-2.ensures in
    record {
      along = along_moved s (shown_by d i.work i.plan.now i.kept.now i.behind) u.picks u
          (moved_there s t d u.picks none c.in_ok-go_to-2.ensures.run there)
          (along_on s w u h.along c.in_ok-event.ensures.same);
      walking = (h.seen ++ (next.0 ++ traced_of c.in-Some.event ∷ []), next.2);
      there = λ e is. sym c.last-last.ensures ∙ is;
    }

pub returns : goal.returns
returns c =
    let s = c.args.self.now in
    let i = c.self.inside in
    let w = c.in_ok-walk.walk in
    let u = c.go_to_miss.new.self in
    let d = c.go_to-2.new.self in
    let t : Recorded = shown_by i.debugged i.work i.plan.now i.kept.now i.behind in
    let h = c.in_ok-walk.ensures.stands in
    let none = c.self.view_is ∙ c.in_ok-walk.ensures.run in
    let next = subst (GoesToNext u h.seen) c.in-Some.is (c.in_ok-event.ensures.goes h.seen h.walked) in
    let there = c.in_ok-go_to-2.ensures.ok ∙ c.picks-2.ensures in
    let x = traced_of c.in-Some.event in
    let program : i.work.program.now ≡ s.stand.run.program =
    sym c.self.invariant.program ∙ ap (λ (r : Recorded). r.stand.run.program) none in
    goes_to_miss s _ w u c.in-Some.event _ h c.in_ok-event.ensures.same next
    (c.in_ok-push_event.ensures ∙ ap (λ p. p ++ event_line i.work.program.now x) c.new-text.ensures.items
    ∙ ap (λ e. event_line e x) program)
    (kept_there s (shown_by d i.work i.plan.now i.kept.now i.behind) _ u.picks u.last
    (moved_there s t d u.picks none c.in_ok-go_to-2.ensures.run there)
    (c.keep.ensures ∙ ap (λ (o : Option LastEvent). shown_by d i.work i.plan.now i.kept.now o) c.last-last.ensures))
