-- One stretch after another.
use Rattle.std.proofs.Common.{◌++◌, arith}
use Rattle.run_costs.proofs.Counted.{none_more, joined, same_self, same_on}
use Rattle.run_costs.proofs.counting.Counting.count_silent.Goals as goal

pub loop-stretch-init : goal.loop-stretch-init
loop-stretch-init c = record {
  on = λ symbols seen h. none_more symbols c.args.self.now seen h;
  most = omega arith;
  same = same_self c.args.self.now.tracer;
}

pub words_ahead-requires : goal.words_ahead-requires
words_ahead-requires c =
    let on = c.loop-stretch.invariant.on c.requires.counted.0 c.requires.counted.1 c.requires.counted.2 in
    record { traced = (c.requires.counted.1 ++ on.0, on.1.traced) }

pub count_stretch-requires-clause-counted : goal.count_stretch-requires-clause-counted
count_stretch-requires-clause-counted c =
    let symbols = c.requires.counted.0 in
    let on = c.loop-stretch.invariant.on symbols c.requires.counted.1 c.requires.counted.2 in
    (symbols, c.requires.counted.1 ++ on.0, on.1)

pub returns-then-not-branch-clause-counted : goal.returns-then-not-branch-clause-counted
returns-then-not-branch-clause-counted c = λ symbols seen h.
    joined symbols c.loop-stretch.self c.count_stretch.new.self seen (c.loop-stretch.invariant.on symbols seen h)
    (c.in_ok-count_stretch.ensures.counted symbols)

pub returns-then-not-branch-clause-same : goal.returns-then-not-branch-clause-same
returns-then-not-branch-clause-same c =
    same_on c.args.self.now.tracer c.loop-stretch.self.tracer c.count_stretch.new.self.tracer
    c.loop-stretch.invariant.same c.in_ok-count_stretch.ensures.same

pub loop-stretch-preserved : goal.loop-stretch-preserved
loop-stretch-preserved c =
    let s = c.loop-stretch.self in
    let d = c.count_stretch.new.self in
    let e = c.in_ok-count_stretch.ensures in
    let most = c.loop-stretch.invariant.most in
    let more = e.most in
    record {
      on = λ symbols seen h. joined symbols s d seen (c.loop-stretch.invariant.on symbols seen h) (e.counted symbols);
      most = omega (arith, most, more);
      same = same_on c.args.self.now.tracer s.tracer d.tracer c.loop-stretch.invariant.same e.same;
    }

pub returns-clause-counted : goal.returns-clause-counted
returns-clause-counted c = c.loop-stretch.invariant.on
