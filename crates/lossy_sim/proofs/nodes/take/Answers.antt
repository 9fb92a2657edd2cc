-- The node takes what its link delivers, and its links are offered what it sends.
use Rattle.std.proofs.Common.{◌≡◌, ◌+◌, ◌*◌, ◌^◌, ◌∙◌, length, set, ap, subst}
use Rattle.std.proofs.lemmas.List.{length-set}
use Rattle.lossy_link.specs.Receiver.{Delivers}
use Rattle.dsm_core.specs.CoreSteps.{SameNodes}
use Rattle.dsm_core.proofs.CoreSteps.{on_ok}
use Rattle.lossy_sim.specs.Links.{LossyLink}
use Rattle.lossy_sim.specs.Stored.{link_at, HaveOffered, HaveOfferedFew}
use Rattle.lossy_sim.proofs.Stored.{link_read, few_delivered}
use Rattle.lossy_sim.proofs.Events.{same_nodes, same_set, works_set, stamp_read, message_made}
use Rattle.lossy_sim.proofs.nodes.take.Goals as goal

pub take_into-turn-requires-clause-stamp : goal.take_into-turn-requires-clause-stamp
take_into-turn-requires-clause-stamp c =
    let ns0 = c.args.nodes.now.items in
    let ns1 = set ns0 c.args.node c.room.new.self in
    let len1 : length ns1 ≡ c.args.count = length-set ns0 c.args.node c.room.new.self
    ∙ c.requires.count in
    let bi = c.requires.allowed.0 in
    let same1 : SameNodes ns0 ns1 = same_set c.args.count c.args.node ns0 ns0
    c.index_mut.result.now c.room.new.self c.requires.count bi (same_nodes ns0)
    c.index_mut.ensures.value c.room.ensures.node c.room.ensures.work in
    stamp_read c.args.count c.args.node ns0 ns1 c.index_mut-3.result.now len1 bi same1
    c.index_mut-3.ensures.value c.requires.allowed.2

pub take_into-turn-requires-clause-wire : goal.take_into-turn-requires-clause-wire
take_into-turn-requires-clause-wire c =
    let ls0 = c.args.links.now.items in
    let place = c.args.from * c.args.count + c.args.node in
    let ls1 = set ls0 place c.deliver-wire.new.self in
    let at : c.index_mut-2.result.now ≡ link_at ls0 c.args.count c.args.from c.args.node =
    link_read ls0 c.args.count c.args.from c.args.node c.index_mut-2.result.now
    c.requires.links.len c.requires.allowed.1 c.requires.allowed.0 c.index_mut-2.ensures.value in
    let next = c.deliver-wire.ensures.delivers in
    c.requires.allowed.3.stamp c.deliver-wire.result next.0
    (subst (λ (l : LossyLink). Delivers l.receiver c.deliver-wire.result next.0) at next.1)

pub offer-requires-clause-few : goal.offer-requires-clause-few
offer-requires-clause-few c =
    let ls0 = c.args.links.now.items in
    let place = c.args.from * c.args.count + c.args.node in
    let ls1 = set ls0 place c.deliver-wire.new.self in
    let at : c.index_mut-2.result.now ≡ link_at ls0 c.args.count c.args.from c.args.node =
    link_read ls0 c.args.count c.args.from c.args.node c.index_mut-2.result.now
    c.requires.links.len c.requires.allowed.1 c.requires.allowed.0 c.index_mut-2.ensures.value in
    let next = c.deliver-wire.ensures.delivers in
    few_delivered ls0 c.args.count c.args.from c.args.node
    c.deliver-wire.new.self next.0 (2 ^ 62) c.requires.links.len c.requires.allowed.1
    c.requires.allowed.0
    (next.2 ∙ ap (λ (l : LossyLink). record l { receiver = next.0 }) at) c.requires.few

pub returns-clause-works : goal.returns-clause-works
returns-clause-works c =
    let ns0 = c.args.nodes.now.items in
    let ns1 = set ns0 c.args.node c.room.new.self in
    let len1 : length ns1 ≡ c.args.count = length-set ns0 c.args.node c.room.new.self
    ∙ c.requires.count in
    let bi = c.requires.allowed.0 in
    let same1 : SameNodes ns0 ns1 = same_set c.args.count c.args.node ns0 ns0
    c.index_mut.result.now c.room.new.self c.requires.count bi (same_nodes ns0)
    c.index_mut.ensures.value c.room.ensures.node c.room.ensures.work in
    on_ok c.offer.result (λ (few : HaveOfferedFew 18 (set c.args.links.now.items
    (c.args.from * c.args.count + c.args.node) c.deliver-wire.new.self)
    c.offer.new.links.items c.args.count). works_set c.args.count c.args.node ns0 ns1
    c.index_mut-3.result.now c.take_into-turn.new.self len1 bi same1 c.index_mut-3.ensures.value
    c.take_into-turn.ensures.work) c.offer.ensures.few

pub returns-clause-few : goal.returns-clause-few
returns-clause-few c =
    let ls0 = c.args.links.now.items in
    let place = c.args.from * c.args.count + c.args.node in
    let ls1 = set ls0 place c.deliver-wire.new.self in
    let at : c.index_mut-2.result.now ≡ link_at ls0 c.args.count c.args.from c.args.node =
    link_read ls0 c.args.count c.args.from c.args.node c.index_mut-2.result.now
    c.requires.links.len c.requires.allowed.1 c.requires.allowed.0 c.index_mut-2.ensures.value in
    let next = c.deliver-wire.ensures.delivers in
    on_ok c.offer.result (λ (few : HaveOfferedFew 18 ls1 c.offer.new.links.items c.args.count) most sent.
    few most (few_delivered ls0 c.args.count c.args.from c.args.node
    c.deliver-wire.new.self next.0 most c.requires.links.len c.requires.allowed.1
    c.requires.allowed.0
    (next.2 ∙ ap (λ (l : LossyLink). record l { receiver = next.0 }) at) sent)) c.offer.ensures.few

pub returns-clause-event : goal.returns-clause-event
returns-clause-event c =
    let ns0 = c.args.nodes.now.items in
    let ns1 = set ns0 c.args.node c.room.new.self in
    let len1 : length ns1 ≡ c.args.count = length-set ns0 c.args.node c.room.new.self
    ∙ c.requires.count in
    let bi = c.requires.allowed.0 in
    let same1 : SameNodes ns0 ns1 = same_set c.args.count c.args.node ns0 ns0
    c.index_mut.result.now c.room.new.self c.requires.count bi (same_nodes ns0)
    c.index_mut.ensures.value c.room.ensures.node c.room.ensures.work in
    let ls0 = c.args.links.now.items in
    let place = c.args.from * c.args.count + c.args.node in
    let ls1 = set ls0 place c.deliver-wire.new.self in
    let at : c.index_mut-2.result.now ≡ link_at ls0 c.args.count c.args.from c.args.node =
    link_read ls0 c.args.count c.args.from c.args.node c.index_mut-2.result.now
    c.requires.links.len c.requires.allowed.1 c.requires.allowed.0 c.index_mut-2.ensures.value in
    let next = c.deliver-wire.ensures.delivers in
    on_ok c.offer.result (λ (sent : HaveOffered ls1 c.offer.new.links.items
    c.args.count c.args.node c.take_into-turn.result.stamp c.take_into-turn.new.sends.items).
    message_made c.args.count c.args.node c.args.from ns0 ns1 c.index_mut-3.result.now
    c.take_into-turn.new.self ls0 c.offer.new.links.items c.deliver-wire.new.self next.0
    c.take_into-turn.result.stamp c.take_into-turn.new.sends.items c.deliver-wire.result len1
    c.requires.links.len bi c.requires.allowed.1 same1 c.index_mut-3.ensures.value
    (subst (λ (l : LossyLink). Delivers l.receiver c.deliver-wire.result next.0) at next.1)
    (next.2 ∙ ap (λ (l : LossyLink). record l { receiver = next.0 }) at) sent
    c.take_into-turn.ensures.node c.take_into-turn.ensures.sends c.take_into-turn.ensures.stamp)
    c.offer.ensures.offered
