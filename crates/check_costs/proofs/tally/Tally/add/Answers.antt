use Rattle.check_costs.proofs.Tallying.{one_tallied}
use Rattle.check_costs.proofs.tally.Tally.add.Goals as goal

pub returns : goal.returns
returns c = λ functions words is.
    one_tallied words (record { label = c.args.label; commits = c.args.commits }) functions
    c.args.self.now.counts.items c.index_mut.result.now c.count_word.new.self is c.requires.function
    c.index_mut.ensures.value c.in_ok-count_word.ensures
