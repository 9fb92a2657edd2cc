-- One stretch after another.
use Rattle.std.proofs.Common.{◌++◌, arith}
use Rattle.recorded_run.proofs.Along.{stays, stays_self}
use Rattle.recorded_run.proofs.Silent.{both_counted, none_counted}
use Rattle.recorded_run.proofs.walk.Walk.make_silent.Goals as goal

pub loop-self-init : goal.loop-self-init
loop-self-init c = record {
  on = λ seen h. none_counted c.args.self.now seen h;
  few = c.requires.few;
  left = omega arith;
  same = stays_self c.args.self.now;
}

pub words_ahead-requires : goal.words_ahead-requires
words_ahead-requires c =
    let on = c.loop-self.invariant.on c.requires.counting.0 c.requires.counting.1 in
    record { traced = (c.requires.counting.0 ++ on.0, on.1.traced) }

pub make_stretch-requires-clause-counting : goal.make_stretch-requires-clause-counting
make_stretch-requires-clause-counting c =
    let on = c.loop-self.invariant.on c.requires.counting.0 c.requires.counting.1 in
    (c.requires.counting.0 ++ on.0, on.1)

pub returns-in_default-clause-counted : goal.returns-in_default-clause-counted
returns-in_default-clause-counted c = c.loop-self.invariant.on

pub returns-then-not-make_stretch-clause-counted : goal.returns-then-not-make_stretch-clause-counted
returns-then-not-make_stretch-clause-counted c = λ seen h.
    both_counted c.loop-self.self c.make_stretch.new.self seen (c.loop-self.invariant.on seen h) c.make_stretch.ensures.counted

pub returns-then-not-make_stretch-clause-same : goal.returns-then-not-make_stretch-clause-same
returns-then-not-make_stretch-clause-same c =
    stays c.args.self.now c.loop-self.self c.make_stretch.new.self c.loop-self.invariant.same c.make_stretch.ensures.same

pub loop-self-preserved : goal.loop-self-preserved
loop-self-preserved c =
    let w = c.loop-self.self in
    let u = c.make_stretch.new.self in
    let left = c.loop-self.invariant.left in
    let more = c.make_stretch.ensures.left in
    record {
      on = λ seen h. both_counted w u seen (c.loop-self.invariant.on seen h) c.make_stretch.ensures.counted;
      few = c.make_stretch.ensures.few;
      left = omega (arith, left, more);
      same = stays c.args.self.now w u c.loop-self.invariant.same c.make_stretch.ensures.same;
    }

pub returns-clause-counted : goal.returns-clause-counted
returns-clause-counted c = c.loop-self.invariant.on
