-- The walk that is kept, or one from the start.
use Rattle.std.proofs.Common.{◌≡◌, [], Some, sym, ap, subst, ◌∙◌}
use Rattle.std.proofs.lemmas.Result.{IfOk-weaker}
use Rattle.event_text.specs.replay.dsm_core.CoreParts.{work_in}
use Rattle.recorded_run.specs.Shown.{Recorded}
use Rattle.recorded_run.specs.Walks.{HasWalked, IsAlong, IsAlongShown, IsWalking, comes_to}
use Rattle.recorded_run.proofs.Showing.{along_shown, holds_without, kept_along}
use Rattle.recorded_run.proofs.run.RecordedRun.nearest_walk.Goals as goal

pub invariant_of-self : goal.invariant_of-self
invariant_of-self c =
    let i = c.self.inside in
    holds_without i.debugged i.work i.plan.now i.code.now i.kept.now i.walk i.behind c.self.invariant
    c.take.new.self c.take.ensures.after (ap (λ (s : Recorded). s.behind) c.self.view_is ∙ c.requires)

pub invariant_of-self-2 : goal.invariant_of-self-2
invariant_of-self-2 c =
    let i = c.self.inside in
    holds_without i.debugged i.work i.plan.now i.code.now i.kept.now i.walk i.behind c.self.invariant
    c.take.new.self c.take.ensures.after (ap (λ (s : Recorded). s.behind) c.self.view_is ∙ c.requires)

pub returns-then-comes_to-clause-along : goal.returns-then-comes_to-clause-along
returns-then-comes_to-clause-along c =
    let i = c.self.inside in
    let w = c.in-Some.walk in
    let is : i.walk ≡ Some w = sym c.take.ensures.value ∙ c.in-Some.is in
    let k = kept_along i.debugged i.work i.plan.now i.code.now i.kept.now i.walk i.behind c.self.invariant w is in
    subst (λ (s : Recorded). IsAlongShown s w) c.self.view_is k.0

pub returns-then-comes_to-clause-walking : goal.returns-then-comes_to-clause-walking
returns-then-comes_to-clause-walking c =
    let i = c.self.inside in
    let w = c.in-Some.walk in
    let is : i.walk ≡ Some w = sym c.take.ensures.value ∙ c.in-Some.is in
    let k = kept_along i.debugged i.work i.plan.now i.code.now i.kept.now i.walk i.behind c.self.invariant w is in
    k.1

pub returns-then-comes_to-clause-comes : goal.returns-then-comes_to-clause-comes
returns-then-comes_to-clause-comes c =
    let there = c.position-position.ensures.value ∙ ap (λ (s : Recorded). s.stand.position) c.self.view_is in
    ap (comes_to c.in-Some.walk) (sym there) ∙ sym c.comes_to.ensures ∙ c.if-comes_to.true

pub new-requires-clause-rewritten : goal.new-requires-clause-rewritten
new-requires-clause-rewritten c = c.self.invariant.stands.runs

pub returns-clause-along : goal.returns-clause-along
returns-clause-along c =
    let i = c.self.inside in
    IfOk-weaker c.new.result (λ w. IsAlong (work_in i.work) i.plan.now i.kept.now w) (IsAlongShown c.args.self.now)
    (λ w a. subst (λ (s : Recorded). IsAlongShown s w) c.self.view_is
    (along_shown i.debugged i.work i.plan.now i.code.now i.kept.now i.walk i.behind c.self.invariant w a))
    c.new.ensures.along

pub returns-clause-walking : goal.returns-clause-walking
returns-clause-walking c =
    IfOk-weaker c.new.result (λ w. HasWalked w []) IsWalking (λ w h. ([], h)) c.new.ensures.start

pub returns-clause-comes : goal.returns-clause-comes
returns-clause-comes c = c.new.ensures.comes c.args.self.now.stand.position
