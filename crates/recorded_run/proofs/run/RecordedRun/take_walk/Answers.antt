-- The walk that stands behind the event that is named, or one that goes to the position.
use Rattle.std.proofs.Common.{◌≡◌, ℕ, ◌≤◌, None, List, length, sym, ap, subst, ◌∙◌}
use Rattle.debugged_run.specs.one_memory.declared.Pick.{Pick}
use Rattle.recorded_run.specs.Shown.{AreFewest, Recorded}
use Rattle.recorded_run.specs.Walks.{IsAlongShown, IsOfPicks, StandsAt, behind_none, comes_to}
use Rattle.recorded_run.proofs.Showing.{holds_alone, never_lost, no_event, of_these, shown_by, stands_at, stands_behind}
use Rattle.recorded_run.proofs.run.RecordedRun.take_walk.Goals as goal

pub unreachable-requires : goal.unreachable-requires
unreachable-requires c =
    let i = c.self.inside in
    never_lost i.debugged i.work i.plan.now i.code.now i.kept.now i.walk i.behind c.self.invariant
    (sym c.is_some.ensures ∙ c.if-is_some.true) (sym c.take.ensures.value ∙ c.in_default.is)

pub invariant_of-self : goal.invariant_of-self
invariant_of-self c =
    let i = c.self.inside in
    holds_alone i.debugged i.work i.plan.now i.code.now i.kept.now i.walk i.behind c.self.invariant c.take.new.self
    c.take.ensures.after

pub returns-then-is_some-clause-stands : goal.returns-then-is_some-clause-stands
returns-then-is_some-clause-stands c =
    let i = c.self.inside in
    let w = c.in-Some.walk in
    subst (λ (s : Recorded). StandsAt s w) c.self.view_is
    (stands_behind i.debugged i.work i.plan.now i.code.now i.kept.now i.walk i.behind c.self.invariant w
    (sym c.is_some.ensures ∙ c.if-is_some.true) (sym c.take.ensures.value ∙ c.in-Some.is))

pub returns-then-is_some-clause-run : goal.returns-then-is_some-clause-run
returns-then-is_some-clause-run c = ap behind_none c.self.view_is

pub nearest_walk-requires : goal.nearest_walk-requires
nearest_walk-requires c =
    sym (ap (λ (s : Recorded). s.behind) c.self.view_is)
    ∙ no_event c.self.inside.behind (λ some. absurd (cc (c.is_some.ensures, c.if-is_some.false, some)))

pub go_to-requires : goal.go_to-requires
go_to-requires c =
    let i = c.self-2.inside in
    let w = c.in_ok-walk.walk in
    let here : shown_by i.debugged i.work i.plan.now i.kept.now i.behind ≡ c.args.self.now =
    c.self-2.view_is ∙ c.in_ok-walk.ensures.run in
    let along = subst (λ (s : Recorded). IsAlongShown s w) (sym here) c.in_ok-walk.ensures.along in
    let there = c.position-position.ensures.value ∙ ap (λ (s : Recorded). s.stand.position) here in
    record {
      walking = c.in_ok-walk.ensures.walking;
      of_picks = subst (IsOfPicks w) (sym c.picks.ensures)
          (of_these i.debugged i.work i.plan.now i.code.now i.kept.now i.walk i.behind c.self-2.invariant w along);
      comes = ap (comes_to w) there ∙ c.in_ok-walk.ensures.comes;
      within = subst (λ (picks : List Pick). c.position-position.result ≤ length picks) (sym c.picks.ensures)
          c.position-position.ensures.within;
    }

pub returns : goal.returns
returns c =
    let s = c.args.self.now in
    let i = c.self-2.inside in
    let here : shown_by i.debugged i.work i.plan.now i.kept.now i.behind ≡ s =
    c.self-2.view_is ∙ c.in_ok-walk.ensures.run in
    let there = c.position-position.ensures.value ∙ ap (λ (s : Recorded). s.stand.position) here in
    let none : s.behind ≡ None =
    sym (ap (λ (s : Recorded). s.behind) c.self.view_is)
    ∙ no_event c.self.inside.behind (λ some. absurd (cc (c.is_some.ensures, c.if-is_some.false, some))) in
    let went = c.in_ok-go_to.ensures.there in
    record {
      stands = stands_at s c.in_ok-walk.walk c.go_to.new.self c.in_ok-walk.ensures.along c.in_ok-go_to.ensures.same none
          went.0 went.1 (subst (λ (k : ℕ). AreFewest k went.0) there went.2);
      run = c.in_ok-walk.ensures.run ∙ ap (λ o. record s { behind = o }) none;
    }
