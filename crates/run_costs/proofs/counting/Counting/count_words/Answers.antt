-- Words of a stretch more, by their numbers.
use Rattle.std.proofs.Common.{refl}
use Rattle.run_costs.specs.declared.counting.Counting.{Counting}
use Rattle.run_costs.proofs.Counted.{words_counted}
use Rattle.run_costs.proofs.counting.Counting.count_words.Goals as goal

pub make_silent_words-requires-clause-traced : goal.make_silent_words-requires-clause-traced
make_silent_words-requires-clause-traced c = (c.requires.counted.1, c.requires.counted.2.traced)

pub make_silent_words-requires-clause-visits : goal.make_silent_words-requires-clause-visits
make_silent_words-requires-clause-visits c = c.requires.counted.2.visits

pub returns-clause-counted : goal.returns-clause-counted
returns-clause-counted c = λ symbols seen h.
    let s = c.args.self.now in
    let e = c.make_silent_words.ensures in
    let d : Counting = record {
      tracer = c.make_silent_words.new.self;
      labels = s.labels;
      visits = c.make_silent_words.new.visits;
      tally = s.tally;
    } in
    words_counted symbols s d seen h e.same refl refl c.args.stretch.now.node c.make_silent_words.result
    (e.made seen h.traced) e.passed e.counted e.commits e.visits
