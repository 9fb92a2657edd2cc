-- One word of a stretch after another.
use Rattle.std.proofs.Common.{◌+◌, ◌++◌, ap, ◌∙◌, subst, arith}
use Rattle.std.specs.Prelude.{map}
use Rattle.one_memory.specs.Shown.{pick_of}
use Rattle.run_trace.specs.Tracing.{HasTracedIfSilent}
use Rattle.record_picks.proofs.Silents.{steps, none_picked, one_picked, still_picked, same_self, same_on}
use Rattle.record_picks.proofs.push_stretch.Goals as goal

pub loop-stretch-init : goal.loop-stretch-init
loop-stretch-init c = record {
  on = λ seen h. none_picked c.args.tracer.now seen (map pick_of c.args.picks.now.items) h;
  stretch = c.requires.stretch;
  few = omega arith;
  fewer = omega arith;
  same = same_self c.args.tracer.now;
}

pub make_silent_word-requires-clause-traced : goal.make_silent_word-requires-clause-traced
make_silent_word-requires-clause-traced c =
    let on = c.loop-stretch.invariant.on c.requires.traced.0 c.requires.traced.1 in
    (c.requires.traced.0 ++ on.more, on.traced)

pub returns-in_default-clause-picked : goal.returns-in_default-clause-picked
returns-in_default-clause-picked c = λ seen h.
    let t = c.loop-stretch.tracer in
    let u = c.make_silent_word.new.self in
    still_picked t u seen _ _ (c.loop-stretch.invariant.on seen h)
    (λ l k. subst (HasTracedIfSilent t u l c.loop-stretch.stretch.node) c.in_default.is (c.make_silent_word.ensures.made l k))

pub loop-stretch-preserved : goal.loop-stretch-preserved
loop-stretch-preserved c =
    let t = c.loop-stretch.tracer in
    let u = c.make_silent_word.new.self in
    let now = map pick_of c.loop-stretch.picks.items in
    let commits = c.in-Some.commits in
    let less = c.in-Some.ensures.less in
    let few = c.loop-stretch.invariant.few in
    let fewer = c.loop-stretch.invariant.fewer in
    let left = less.words in
    let made = c.in-Some.ensures.fewer in
    record {
      on = λ seen h.
          let on = c.loop-stretch.invariant.on seen h in
          one_picked t u seen _ now _ c.loop-stretch.stretch.node commits on (c.in-Some.ensures.made (seen ++ on.more) on.traced)
          (c.in_ok-push_if.ensures ∙ ap (λ l. now ++ l) c.step_by.ensures
          ∙ ap (λ n. now ++ steps n commits) less.node);
      stretch = c.in-Some.ensures.stretch;
      few = omega (arith, few, left);
      fewer = omega (arith, fewer, left, made);
      same = same_on c.args.tracer.now t u c.loop-stretch.invariant.same c.make_silent_word.ensures.same;
    }

pub returns-clause-picked : goal.returns-clause-picked
returns-clause-picked c = c.loop-stretch.invariant.on
