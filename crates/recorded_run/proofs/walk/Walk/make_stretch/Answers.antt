-- One word of a stretch after another.
use Rattle.std.proofs.Common.{◌+◌, ◌++◌, refl, ap, subst, arith}
use Rattle.event_text.specs.run_trace.Tracing.{HasTracedIfSilent}
use Rattle.recorded_run.proofs.Along.{stays, stays_by, stays_self}
use Rattle.recorded_run.proofs.Silent.{none_counted, one_counted, still_counted}
use Rattle.recorded_run.proofs.walk.Walk.make_stretch.Goals as goal

pub loop-stretch-init : goal.loop-stretch-init
loop-stretch-init c = record {
  on = λ seen h. none_counted c.args.self.now seen h;
  stretch = c.requires.stretch;
  below = c.requires.few;
  few = omega arith;
  fewer = omega arith;
  same = stays_self c.args.self.now;
}

pub make_silent_word-requires-clause-traced : goal.make_silent_word-requires-clause-traced
make_silent_word-requires-clause-traced c =
    let on = c.loop-stretch.invariant.on c.requires.counting.0 c.requires.counting.1 in
    (c.requires.counting.0 ++ on.0, on.1.traced)

pub returns-in_default-clause-counted : goal.returns-in_default-clause-counted
returns-in_default-clause-counted c = λ seen h.
    let w = c.loop-stretch.self in
    let t = c.make_silent_word.new.self in
    let on = c.loop-stretch.invariant.on seen h in
    still_counted w _ seen c.loop-stretch.stretch.node on
    (subst (HasTracedIfSilent w.tracer t (seen ++ on.0) c.loop-stretch.stretch.node) c.in_default.is
    (c.make_silent_word.ensures.made (seen ++ on.0) on.1.traced)) refl

pub returns-in_default-clause-same : goal.returns-in_default-clause-same
returns-in_default-clause-same c =
    stays c.args.self.now c.loop-stretch.self _ c.loop-stretch.invariant.same
    (stays_by c.loop-stretch.self _ c.make_silent_word.ensures.same)

pub returns-then-self-most-clause-counted : goal.returns-then-self-most-clause-counted
returns-then-self-most-clause-counted c = λ seen h.
    let w = c.loop-stretch.self in
    let on = c.loop-stretch.invariant.on seen h in
    one_counted w _ seen c.loop-stretch.stretch.node c.in-Some.commits on
    (c.in-Some.ensures.made (seen ++ on.0) on.1.traced) (ap (λ n. w.picks + n) c.from.ensures)

pub returns-then-self-most-clause-same : goal.returns-then-self-most-clause-same
returns-then-self-most-clause-same c =
    stays c.args.self.now c.loop-stretch.self _ c.loop-stretch.invariant.same
    (stays_by c.loop-stretch.self _ c.make_silent_word.ensures.same)

pub loop-stretch-preserved : goal.loop-stretch-preserved
loop-stretch-preserved c =
    let w = c.loop-stretch.self in
    let less = c.in-Some.ensures.less in
    let few = c.loop-stretch.invariant.few in
    let fewer = c.loop-stretch.invariant.fewer in
    let left = less.words in
    let made = c.in-Some.ensures.fewer in
    record {
      on = λ seen h.
          let on = c.loop-stretch.invariant.on seen h in
          one_counted w _ seen c.loop-stretch.stretch.node c.in-Some.commits on
          (c.in-Some.ensures.made (seen ++ on.0) on.1.traced) (ap (λ n. w.picks + n) c.from.ensures);
      stretch = c.in-Some.ensures.stretch;
      below = omega arith;
      few = omega (arith, few, left);
      fewer = omega (arith, fewer, left, made);
      same = stays c.args.self.now w _ c.loop-stretch.invariant.same (stays_by w _ c.make_silent_word.ensures.same);
    }

pub returns-clause-counted : goal.returns-clause-counted
returns-clause-counted c = c.loop-stretch.invariant.on
