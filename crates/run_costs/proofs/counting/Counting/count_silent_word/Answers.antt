-- A word of a stretch more.
use Rattle.std.proofs.Common.{refl, subst}
use Rattle.run_trace.specs.Tracing.{HasTracedIfSilent}
use Rattle.run_costs.specs.declared.counting.Counting.{Counting}
use Rattle.run_costs.proofs.Counted.{silent_counted, still_counted}
use Rattle.run_costs.proofs.counting.Counting.count_silent_word.Goals as goal

pub next_label-label-requires-clause-node : goal.next_label-label-requires-clause-node
next_label-label-requires-clause-node c = c.requires.stretch.may.0

pub make_silent_word-requires-clause-traced : goal.make_silent_word-requires-clause-traced
make_silent_word-requires-clause-traced c = (c.requires.counted.1, c.requires.counted.2.traced)

pub returns-in_default-clause-counted : goal.returns-in_default-clause-counted
returns-in_default-clause-counted c = λ symbols seen h.
    let s = c.args.self.now in
    let t = c.make_silent_word.new.self in
    let d : Counting = record { tracer = t; labels = s.labels; visits = s.visits; tally = s.tally } in
    still_counted symbols s d seen h c.make_silent_word.ensures.same refl refl
    (subst (HasTracedIfSilent s.tracer t seen c.args.stretch.now.node) c.in_default.is
    (c.make_silent_word.ensures.made seen h.traced)) refl

pub returns-clause-counted : goal.returns-clause-counted
returns-clause-counted c = λ symbols seen h.
    let s = c.args.self.now in
    let d : Counting = record { tracer = c.make_silent_word.new.self; labels = s.labels; visits = s.visits; tally = c.add.new.self } in
    silent_counted symbols s d seen h c.make_silent_word.ensures.same refl refl c.args.stretch.now.node
    c.next_label-label.result c.in-Some.commits (c.in-Some.ensures.made seen h.traced) c.requires.stretch.may
    (c.next_label-label.ensures.label symbols seen h) c.in_ok-add.ensures
