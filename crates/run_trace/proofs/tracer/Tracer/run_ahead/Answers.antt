-- Words of a stretch, one after another.
use Rattle.std.proofs.Common.{◌+◌, ◌++◌, Some, None, refl, ap, sym, subst, ◌∙◌, append-nil, arith}
use Rattle.replay.specs.node_machine.Touch.{IsTouch}
use Rattle.replay.specs.dsm_core.CoreParts.{CoreParts, work_of, core_of}
use Rattle.replay.specs.Way.{core_in}
use Rattle.replay.proofs.Runs.{running_of}
use Rattle.run_trace.specs.Traced.{Traced, Word, word_traced}
use Rattle.run_trace.specs.Tracing.{HasTraced, work_traced, plan_traced}
use Rattle.run_trace.proofs.Silent.{ends_same, passed_word, touch_at}
use Rattle.run_trace.proofs.Tracings.{traced_still, word_after}
use Rattle.run_trace.proofs.Passes.{sets_out, goes_by, ends_by, ends_here, left_same, same_self, same_by, same_on}
use Rattle.run_trace.proofs.tracer.Tracer.run_ahead.Goals as goal

pub loop-stretch-init : goal.loop-stretch-init
loop-stretch-init c = record {
  on = λ seen h. sets_out c.args.until c.args.self.now seen h;
  stretch = c.requires.stretch;
  few = omega arith;
  fewer = omega arith;
  same = same_self c.args.self.now;
}

pub returns-in_default-clause-passed : goal.returns-in_default-clause-passed
returns-in_default-clause-passed c = λ seen h.
    ends_here c.args.until c.loop-stretch.self seen (c.loop-stretch.invariant.on seen h)

pub run_to_access-requires-clause-traced : goal.run_to_access-requires-clause-traced
run_to_access-requires-clause-traced c =
    let on = c.loop-stretch.invariant.on c.requires.traced.0 c.requires.traced.1 in
    (c.requires.traced.0 ++ on.more, on.traced)

pub run_to_access-requires-clause-touch : goal.run_to_access-requires-clause-touch
run_to_access-requires-clause-touch c =
    let t = c.loop-stretch.self in
    let i = c.loop-stretch.stretch.node in
    let core = c.core.ensures.value in
    let node = c.node.ensures.value ∙ ap (λ (p : CoreParts). (core_of p).nodes i) core in
    let work = c.node.ensures.work ∙ ap work_of core in
    subst (λ x. IsTouch (work_traced t) ((core_of (core_in t.replayer)).nodes i) x)
    (sym (ends_same c.args.until c.in-Some.touch c.in-Some-ending.touch (sym c.ending.ensures ∙ c.in-Some-ending.is)))
    (touch_at _ _ _ _ c.in-Some.touch (sym work) (sym node) c.in-Some.ensures)

pub returns-in-Some-run_to_access-clause-passed : goal.returns-in-Some-run_to_access-clause-passed
returns-in-Some-run_to_access-clause-passed c = λ seen h.
    ends_by c.args.until c.loop-stretch.self c.run_to_access.new.self seen (Some c.in-Some-run_to_access.word)
    (c.loop-stretch.invariant.on seen h) c.in-Some-run_to_access.ensures.passed

pub returns-in-None-clause-passed : goal.returns-in-None-clause-passed
returns-in-None-clause-passed c = λ seen h.
    ends_by c.args.until c.loop-stretch.self c.run_to_access.new.self seen None
    (c.loop-stretch.invariant.on seen h) c.in-None.ensures.passed

pub make_silent_word-requires-clause-running : goal.make_silent_word-requires-clause-running
make_silent_word-requires-clause-running c =
    let on = c.loop-stretch.invariant.on c.requires.traced.0 c.requires.traced.1 in
    running_of c.loop-stretch.self.replayer on.traced.before on.traced.made

pub returns-then-not-make_silent_word-clause-passed : goal.returns-then-not-make_silent_word-clause-passed
returns-then-not-make_silent_word-clause-passed c = λ seen h.
    let t = c.loop-stretch.self in
    let same = same_by t _ c.make_silent_word.ensures.same refl refl in
    ends_by c.args.until t _ seen None (c.loop-stretch.invariant.on seen h) (λ l k.
    subst (HasTraced _) (sym (append-nil l))
    (traced_still t _ l k (c.if-not-make_silent_word.ensures.kept refl k.before k.made) same))

pub returns-then-not-make_silent_word-clause-most : goal.returns-then-not-make_silent_word-clause-most
returns-then-not-make_silent_word-clause-most c =
    let on = c.loop-stretch.invariant.on c.requires.traced.0 c.requires.traced.1 in
    let h = on.traced in
    let left = left_same c.loop-stretch.self.replayer c.make_silent_word.new.self h.before h.made
    (c.if-not-make_silent_word.ensures.kept refl h.before h.made) c.make_silent_word.ensures.same in
    let few = c.loop-stretch.invariant.few in
    let fewer = c.loop-stretch.invariant.fewer in
    omega (arith, left, few, fewer)

pub loop-stretch-preserved : goal.loop-stretch-preserved
loop-stretch-preserved c =
    let t = c.loop-stretch.self in
    let i = c.loop-stretch.stretch.node in
    let u = c.args.until in
    let p0 = core_in t.replayer in
    let core = c.core.ensures.value in
    let node = c.node.ensures.value ∙ ap (λ (p : CoreParts). (core_of p).nodes i) core in
    let work = c.node.ensures.work ∙ ap work_of core in
    let touch = touch_at _ _ _ _ c.in-Some.touch (sym work) (sym node) c.in-Some.ensures in
    let none = sym c.ending.ensures ∙ c.in_default-ending.is in
    let same = same_by t _ c.make_silent_word.ensures.same refl refl in
    let s = ((core_of (core_in c.make_silent_word.new.self)).nodes i).stamp in
    let did = word_traced (work_traced t) (plan_traced t) ((core_of p0).nodes i) in
    let x : Traced = record { stamp = s; node = i; what = Word did } in
    let few = c.loop-stretch.invariant.few in
    let fewer = c.loop-stretch.invariant.fewer in
    let left = (c.if-not-make_silent_word.ensures.left refl).words in
    let made = c.if-not-make_silent_word.ensures.fewer refl in
    record {
      on = λ seen h.
          let on = c.loop-stretch.invariant.on seen h in
          let silent = (c.if-not-make_silent_word.ensures.passed on.traced.before on.traced.made refl).silent in
          goes_by u t _ seen x on
          (passed_word (work_traced t) (plan_traced t) (core_of p0) i u c.in-Some.touch silent touch none)
          (λ l k. word_after t _ l i s did k (c.if-not-make_silent_word.ensures.passed k.before k.made refl)
          refl refl same);
      stretch = c.if-not-make_silent_word.ensures.stretch refl;
      few = omega (arith, few, left);
      fewer = omega (arith, fewer, left, made);
      same = same_on c.args.self.now t _ c.loop-stretch.invariant.same same;
    }

pub returns-clause-passed : goal.returns-clause-passed
returns-clause-passed c = λ seen h.
    ends_here c.args.until c.loop-stretch.self seen (c.loop-stretch.invariant.on seen h)
