-- One event more.
use Rattle.std.proofs.Common.{◌<◌, Err, ap, sym, ◌∙◌, subst}
use Rattle.std.proofs.lemmas.Result.{err_from_is_err_and}
use Rattle.replay.proofs.Runs.{same_none, same_also, broken_same}
use Rattle.replay.proofs.events.Replayer.make_all.Goals as goal

pub loop-first-init : goal.loop-first-init
loop-first-init c = record { running = c.requires.running; same = same_none c.args.self.now }

pub first-requires : goal.first-requires
first-requires c = record { lawful = c.loop-first.invariant.running.lawful }

pub make_first-requires-clause-running : goal.make_first-requires-clause-running
make_first-requires-clause-running c = c.loop-first.invariant.running

pub loop-first-smaller : goal.loop-first-smaller
loop-first-smaller c = c.in_ok-make_first.ensures.fewer

pub loop-first-preserved : goal.loop-first-preserved
loop-first-preserved c = record {
  running = c.in_ok-make_first.ensures.running;
  same = same_also c.args.self.now c.loop-first.self c.make_first.new.self c.loop-first.invariant.same
      c.in_ok-make_first.ensures.same;
}

pub returns-clause-running : goal.returns-clause-running
returns-clause-running c = c.loop-first.invariant.running

pub returns-clause-through : goal.returns-clause-through
returns-clause-through c = λ i bi. c.in_default.ensures i
    (subst (λ k. i < k) c.loop-first.invariant.running.nodes bi)

pub returns-clause-same : goal.returns-clause-same
returns-clause-same c = c.loop-first.invariant.same

pub returns-in_err-make_first-clause-refused : goal.returns-in_err-make_first-clause-refused
returns-in_err-make_first-clause-refused c = λ rule node entry err.
    let p = err_from_is_err_and c.from_residual.result c.from_residual.ensures.1 in
    broken_same c.args.self.now c.loop-first.self rule node entry c.loop-first.invariant.same
    (c.in_err-make_first.ensures.refused rule node entry (ap Err (sym p.2) ∙ sym p.1 ∙ err))
