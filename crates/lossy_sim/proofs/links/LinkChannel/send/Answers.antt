-- A message more is offered.
use Rattle.std.proofs.Common.{◌+◌, ◌<◌, ◌∙◌, ◌∷◌, [], ap, arith}
use Rattle.lossy_sim.specs.Links.{LossyLink, with_offered}
use Rattle.lossy_sim.proofs.Stored.{number_more, offered_both}
use Rattle.lossy_sim.proofs.links.LinkChannel.send.Goals as goal

pub offer-requires : goal.offer-requires
offer-requires c = record {
  few = let few = c.requires.room 0 (omega arith) in omega (arith, few);
}

pub returns-clause-sent : goal.returns-clause-sent
returns-clause-sent c = λ first wires was. c.in_ok-offer.ensures.offered
    ∙ ap (λ (z : LossyLink). with_offered z (c.args.wire ∷ [])) was
    ∙ offered_both first wires (c.args.wire ∷ [])

pub returns-clause-room : goal.returns-clause-room
returns-clause-room c = λ k room j low.
    let more = number_more c.args.self.now c.offer.new.self c.args.wire c.in_ok-offer.ensures.offered in
    let few = room (j + 1) (omega (arith, low)) in
    omega (arith, more, few)
