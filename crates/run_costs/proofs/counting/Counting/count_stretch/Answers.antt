-- Words of a stretch by their numbers, and one word after another behind them.
use Rattle.std.proofs.Common.{◌++◌, arith}
use Rattle.run_costs.proofs.Counted.{joined, same_on}
use Rattle.run_costs.proofs.counting.Counting.count_stretch.Goals as goal

pub loop-stretch-init : goal.loop-stretch-init
loop-stretch-init c =
    let e = c.count_words.ensures in
    let some = c.requires.some in
    let fewer = e.fewer in
    record {
      on = λ symbols seen h. e.counted symbols seen h;
      stretch = e.stretch;
      fewer = λ none. fewer (omega (arith, some, none));
      most = e.most;
      same = e.same;
    }

pub count_silent_word-requires-clause-counted : goal.count_silent_word-requires-clause-counted
count_silent_word-requires-clause-counted c =
    let symbols = c.requires.counted.0 in
    let on = c.loop-stretch.invariant.on symbols c.requires.counted.1 c.requires.counted.2 in
    (symbols, c.requires.counted.1 ++ on.0, on.1)

pub returns-then-not-branch-clause-counted : goal.returns-then-not-branch-clause-counted
returns-then-not-branch-clause-counted c = λ symbols seen h.
    joined symbols c.loop-stretch.self c.count_silent_word.new.self seen
    (c.loop-stretch.invariant.on symbols seen h) (c.in_ok-count_silent_word.ensures.counted symbols)

pub returns-then-not-branch-clause-same : goal.returns-then-not-branch-clause-same
returns-then-not-branch-clause-same c =
    same_on c.args.self.now.tracer c.loop-stretch.self.tracer c.count_silent_word.new.self.tracer
    c.loop-stretch.invariant.same c.in_ok-count_silent_word.ensures.same

pub count_words-requires-in-loop-stretch-clause-counted : goal.count_words-requires-in-loop-stretch-clause-counted
count_words-requires-in-loop-stretch-clause-counted c =
    let symbols = c.requires.counted.0 in
    let seen = c.requires.counted.1 in
    let on = joined symbols c.loop-stretch.self c.count_silent_word.new.self seen
    (c.loop-stretch.invariant.on symbols seen c.requires.counted.2) (c.in_ok-count_silent_word.ensures.counted symbols) in
    (symbols, seen ++ on.0, on.1)

pub loop-stretch-preserved : goal.loop-stretch-preserved
loop-stretch-preserved c =
    let t = c.args.self.now.tracer in
    let s = c.loop-stretch.self in
    let m = c.count_silent_word.new.self in
    let d = c.count_words-in-loop-stretch.new.self in
    let i = c.loop-stretch.invariant in
    let e = c.in_ok-count_silent_word.ensures in
    let w = c.count_words-in-loop-stretch.ensures in
    let before = i.most in
    let made = e.fewer c.if-not-branch.false in
    let behind = w.most in
    record {
      on = λ symbols seen h. joined symbols m d seen
          (joined symbols s m seen (i.on symbols seen h) (e.counted symbols)) (w.counted symbols);
      stretch = w.stretch;
      fewer = λ none. omega (arith, before, made, behind);
      most = omega (arith, before, made, behind);
      same = same_on t m.tracer d.tracer (same_on t s.tracer m.tracer i.same e.same) w.same;
    }

pub returns-clause-counted : goal.returns-clause-counted
returns-clause-counted c = c.loop-stretch.invariant.on
