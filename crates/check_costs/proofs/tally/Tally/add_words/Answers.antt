use Rattle.std.proofs.Common.{ap, ◌∙◌}
use Rattle.check_costs.specs.Counts.{plus}
use Rattle.check_costs.proofs.Alike.{words_tallied}
use Rattle.check_costs.proofs.tally.Tally.add_words.Goals as goal

pub returns : goal.returns
returns c = λ functions before is.
    words_tallied before (record { label = c.args.label; commits = c.args.commits }) c.args.words functions
    c.args.self.now.counts.items c.index_mut.result.now c.increase.new.self is c.requires.function
    c.index_mut.ensures.value (c.in_ok-increase.ensures ∙ ap (plus c.index_mut.result.now) c.alike-more.ensures)
