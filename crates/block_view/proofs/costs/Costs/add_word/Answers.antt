use Rattle.std.proofs.Common.{◌∷◌, ap, ◌∙◌}
use Rattle.std.specs.Option.{option_to_list}
use Rattle.event_text.specs.node_machine.Wanted.{wanted_in}
use Rattle.block_view.specs.Kept.{counts_with, places_with}
use Rattle.block_view.proofs.Costing.{one_wanted, two_wanted}
use Rattle.block_view.proofs.costs.Costs.add_word.Goals as goal

pub returns-in_ok-want-2-clause-costs : goal.returns-in_ok-want-2-clause-costs
returns-in_ok-want-2-clause-costs c = λ counts places h b d within.
    let first = c.in-Some.wants.first in
    let place = c.address_of-place.result in
    let one = c.in_ok-want.ensures.costs counts places h in
    let two = c.in_ok-want-2.ensures.costs (counts_with counts c.args.node first)
    (places_with places place first) one in
    two_wanted _ counts places c.args.node b c.args.word.now place first c.in-Some-other.other
    (ap wanted_in c.in-Some.is ∙ ap (λ o. first ∷ option_to_list o) c.in-Some-other.is)
    c.address_of-place.ensures (two b d within)

pub returns-in_default-other-clause-costs : goal.returns-in_default-other-clause-costs
returns-in_default-other-clause-costs c = λ counts places h b d within.
    let first = c.in-Some.wants.first in
    let place = c.address_of-place.result in
    let one = c.in_ok-want.ensures.costs counts places h in
    one_wanted _ counts places c.args.node b c.args.word.now place first
    (ap wanted_in c.in-Some.is ∙ ap (λ o. first ∷ option_to_list o) c.in_default-other.is)
    c.address_of-place.ensures (one b d within)
