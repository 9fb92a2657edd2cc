-- Where no micro-op serves the event nothing has changed.
use Rattle.std.proofs.Common.{◌≤◌, ◌^◌, ◌∙◌, sym, subst}
use Rattle.std.proofs.lemmas.Result.{on_ok_weaker}
use Rattle.dsm_core.specs.CoreParts.{core_of, event_of}
use Rattle.timed_sim.specs.declared.counting.StepCount.{StepCount}
use Rattle.timed_sim.specs.Stored.{due_of, times_in}
use Rattle.timed_sim.proofs.Made.{made_kept, next_kept, plan_kept, ready_kept, steps_kept, within_kept}
use Rattle.timed_sim.proofs.run.TimedRun.make.Goals as goal

pub make_seen-requires : goal.make_seen-requires
make_seen-requires c =
    let r = c.args.self.now in
    let q = c.make_silent.new.self in
    let kept = c.make_silent.ensures.kept c.if-make_silent.false in
    record {
      ready = ready_kept r q kept c.requires.ready;
      within = within_kept r q (2 ^ 100) kept c.requires.within;
      few = subst (λ (s : StepCount). s.steps ≤ 2 ^ 100) (sym kept.count) c.requires.few;
      next = next_kept r q kept ∙ c.requires.next;
    }

pub returns-clause-plan : goal.returns-clause-plan
returns-clause-plan c =
    let r = c.args.self.now in
    let q = c.make_silent.new.self in
    let kept = c.make_silent.ensures.kept c.if-make_silent.false in
    on_ok_weaker c.make_seen.result (λ e. e ∙ plan_kept r q kept) c.make_seen.ensures.plan

pub returns-clause-made : goal.returns-clause-made
returns-clause-made c =
    let r = c.args.self.now in
    let q = c.make_silent.new.self in
    let p = c.make_seen.new.self in
    let kept = c.make_silent.ensures.kept c.if-make_silent.false in
    on_ok_weaker c.make_seen.result (made_kept r q (due_of c.args.due) (times_in p) (core_of p.core) kept) c.make_seen.ensures.made

pub returns-clause-steps : goal.returns-clause-steps
returns-clause-steps c =
    let r = c.args.self.now in
    let q = c.make_silent.new.self in
    let p = c.make_seen.new.self in
    let kept = c.make_silent.ensures.kept c.if-make_silent.false in
    on_ok_weaker c.make_seen.result (steps_kept r q p (event_of c.args.due.event) kept) c.make_seen.ensures.steps
