-- One stretch after another.
use Rattle.std.proofs.Common.{◌++◌, arith}
use Rattle.std.specs.Prelude.{map}
use Rattle.one_memory.specs.Shown.{pick_of}
use Rattle.record_picks.proofs.Silents.{none_picked, joined, same_self, same_on}
use Rattle.record_picks.proofs.push_silent.Goals as goal

pub loop-stretch-init : goal.loop-stretch-init
loop-stretch-init c = record {
  on = λ seen h. none_picked c.args.tracer.now seen (map pick_of c.args.picks.now.items) h;
  most = omega arith;
  same = same_self c.args.tracer.now;
}

pub words_ahead-requires : goal.words_ahead-requires
words_ahead-requires c =
    let on = c.loop-stretch.invariant.on c.requires.traced.0 c.requires.traced.1 in
    record { traced = (c.requires.traced.0 ++ on.more, on.traced) }

pub push_stretch-requires-clause-traced : goal.push_stretch-requires-clause-traced
push_stretch-requires-clause-traced c =
    let on = c.loop-stretch.invariant.on c.requires.traced.0 c.requires.traced.1 in
    (c.requires.traced.0 ++ on.more, on.traced)

pub returns-then-not-branch-clause-picked : goal.returns-then-not-branch-clause-picked
returns-then-not-branch-clause-picked c = λ seen h.
    joined c.loop-stretch.tracer c.push_stretch.new.tracer seen _ _ _ (c.loop-stretch.invariant.on seen h)
    c.in_ok-push_stretch.ensures.picked

pub returns-then-not-branch-clause-same : goal.returns-then-not-branch-clause-same
returns-then-not-branch-clause-same c =
    same_on c.args.tracer.now c.loop-stretch.tracer c.push_stretch.new.tracer c.loop-stretch.invariant.same
    c.in_ok-push_stretch.ensures.same

pub loop-stretch-preserved : goal.loop-stretch-preserved
loop-stretch-preserved c =
    let t = c.loop-stretch.tracer in
    let u = c.push_stretch.new.tracer in
    let most = c.loop-stretch.invariant.most in
    let more = c.in_ok-push_stretch.ensures.most in
    record {
      on = λ seen h. joined t u seen _ _ _ (c.loop-stretch.invariant.on seen h) c.in_ok-push_stretch.ensures.picked;
      most = omega (arith, most, more);
      same = same_on c.args.tracer.now t u c.loop-stretch.invariant.same c.in_ok-push_stretch.ensures.same;
    }

pub returns-clause-picked : goal.returns-clause-picked
returns-clause-picked c = c.loop-stretch.invariant.on
