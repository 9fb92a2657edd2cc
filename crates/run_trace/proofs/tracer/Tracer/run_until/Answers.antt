-- One stretch after another.
use Rattle.std.proofs.Common.{◌++◌, Some, None, arith}
use Rattle.replay.proofs.Runs.{running_of}
use Rattle.run_trace.proofs.Passes.{ends_here, joins, is_on, same_on}
use Rattle.run_trace.proofs.tracer.Tracer.run_until.Goals as goal

pub words_ahead-requires : goal.words_ahead-requires
words_ahead-requires c =
    let on = c.loop-stretch.invariant.on c.requires.traced.0 c.requires.traced.1 in
    record { running = running_of c.loop-stretch.self.replayer on.traced.before on.traced.made }

pub run_ahead-requires-clause-traced : goal.run_ahead-requires-clause-traced
run_ahead-requires-clause-traced c =
    let on = c.loop-stretch.invariant.on c.requires.traced.0 c.requires.traced.1 in
    (c.requires.traced.0 ++ on.more, on.traced)

pub returns-in-Ended-clause-passed : goal.returns-in-Ended-clause-passed
returns-in-Ended-clause-passed c = λ seen h.
    joins c.args.until c.loop-stretch.self c.run_ahead.new.self seen (Some c.in-Ended.word)
    (c.loop-stretch.invariant.on seen h) c.in-Ended.ensures.passed

pub returns-in-Before-clause-passed : goal.returns-in-Before-clause-passed
returns-in-Before-clause-passed c = λ seen h.
    joins c.args.until c.loop-stretch.self c.run_ahead.new.self seen None
    (c.loop-stretch.invariant.on seen h) c.in-Before.ensures.passed

pub loop-stretch-preserved : goal.loop-stretch-preserved
loop-stretch-preserved c =
    let u = c.args.until in
    let t = c.loop-stretch.self in
    let s = c.run_ahead.new.self in
    let most = c.loop-stretch.invariant.most in
    let more = c.run_ahead.ensures.most in
    record {
      on = λ seen h. is_on u s seen (joins u t s seen None (c.loop-stretch.invariant.on seen h)
          c.in-Through.ensures.passed);
      most = omega (arith, most, more);
      same = same_on c.args.self.now t s c.loop-stretch.invariant.same c.run_ahead.ensures.same;
    }

pub returns-clause-passed : goal.returns-clause-passed
returns-clause-passed c = λ seen h.
    ends_here c.args.until c.loop-stretch.self seen (c.loop-stretch.invariant.on seen h)
