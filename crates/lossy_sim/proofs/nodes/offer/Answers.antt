-- The links of the node's row are those on which it sends.
use Rattle.std.proofs.Common.{◌+◌, ◌^◌, ◌<◌, ◌≤◌, length, subst, sym, arith}
use Rattle.lossy_link.specs.Sender.{number_offered}
use Rattle.lossy_sim.specs.Links.{LossyLink}
use Rattle.lossy_sim.proofs.Stored.{link_place, offered_few, offered_row}
use Rattle.lossy_sim.proofs.nodes.offer.Goals as goal

pub send_all-requires-clause-room : goal.send_all-requires-clause-room
send_all-requires-clause-room c = λ to d low j less.
    let few = c.requires.few c.args.from to c.requires.from low in
    subst (λ (z : LossyLink). number_offered z.sender + j < 2 ^ 63)
    (sym (link_place c.args.links.now.items c.args.count c.args.from to d c.requires.links.len
    c.requires.from low))
    (omega (arith, few, less))

pub returns-clause-offered : goal.returns-clause-offered
returns-clause-offered c = offered_row c.args.links.now.items c.send_all.new.channels.items
    c.args.count c.args.from c.args.stamp c.args.sends.now.items c.in_ok-send_all.ensures.sent
    c.in_ok-send_all.ensures.others

pub returns-clause-few : goal.returns-clause-few
returns-clause-few c =
    let len = c.len.ensures.value in
    let fits = c.len.ensures.fits in
    let posts = c.args.sends.now.items in
    let short : length posts ≤ 18 = omega (arith, len, fits) in
    offered_few c.args.links.now.items c.send_all.new.channels.items c.args.count c.args.from
    c.args.stamp posts short
    (offered_row c.args.links.now.items c.send_all.new.channels.items c.args.count c.args.from
    c.args.stamp posts c.in_ok-send_all.ensures.sent c.in_ok-send_all.ensures.others)
