-- A word more.
use Rattle.std.proofs.Common.{◌<◌, refl, sym, subst}
use Rattle.run_costs.specs.declared.counting.Counting.{Counting}
use Rattle.run_costs.proofs.Counted.{running_of, word_counted}
use Rattle.run_costs.proofs.counting.Counting.word.Goals as goal

pub next_label-label-requires-clause-node : goal.next_label-label-requires-clause-node
next_label-label-requires-clause-node c =
    let made = c.requires.counted.2.traced.made in
    subst (λ n. c.args.node < n) (sym made.nodes) c.requires.next.node

pub word-requires-clause-running : goal.word-requires-clause-running
word-requires-clause-running c =
    let h = c.requires.counted.2 in
    running_of c.args.self.now.tracer c.requires.counted.1 h.traced

pub word-requires-clause-kinds : goal.word-requires-clause-kinds
word-requires-clause-kinds c = c.requires.counted.2.traced.kinds

pub returns-clause-counted : goal.returns-clause-counted
returns-clause-counted c = λ symbols seen h.
    let d : Counting = record {
      tracer = c.word.new.self;
      labels = c.args.self.now.labels;
      visits = c.args.self.now.visits;
      tally = c.add.new.self;
    } in
    word_counted symbols c.args.self.now d seen h c.in_ok-traced.ensures.same refl refl c.args.node c.in_ok-traced.traced
    c.next_label-label.result c.commits.result (c.in_ok-traced.ensures.made h.traced.before h.traced.made)
    (c.next_label-label.ensures.label symbols seen h) c.commits.ensures c.in_ok-add.ensures
