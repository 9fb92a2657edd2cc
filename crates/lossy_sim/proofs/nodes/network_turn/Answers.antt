-- The links up to this one have had their turns.
use Rattle.std.proofs.Common.{◌≡◌, ◌*◌, ◌∙◌, ◌<◌, subst, length, arith}
use Rattle.std.proofs.lemmas.List.{length-set}
use Rattle.lossy_sim.proofs.Turned.{HaveTurnedTo, turned_none, turned_more, turned_all, turned_few}
use Rattle.lossy_sim.proofs.nodes.network_turn.Goals as goal

pub loop-place-init : goal.loop-place-init
loop-place-init c = record {
  links = c.requires.links;
  turned = turned_none c.args.links.now.items c.args.losses.now;
}

pub loop-place-preserved : goal.loop-place-preserved
loop-place-preserved c =
    let now = c.loop-place.links.items in
    let h = c.loop-place.invariant in
    let below : c.loop-place.place < length now =
    (let all = c.requires.links.len in let len = h.links.len in let end = c.len-place-end.ensures in
    let test = c.loop-place-test.true in omega (arith, all, len, end, test)) in
    record {
      links = record {
        few = h.links.few;
        len = length-set now c.loop-place.place c.network_turn.new.self ∙ h.links.len;
      };
      turned = turned_more c.loop-place.place c.args.links.now.items now c.args.losses.now
          c.loop-place.losses c.network_turn.new.losses c.index_mut.result.now
          c.network_turn.new.self below c.index_mut.ensures.value
          c.in_ok-network_turn.ensures.turn h.turned;
    }

pub returns-clause-turn : goal.returns-clause-turn
returns-clause-turn c =
    let all = c.requires.links.len in
    let end = c.len-place-end.ensures in
    let test = c.loop-place-test.false in
    let most = c.loop-place.auto.place-end in
    let last : c.loop-place.place ≡ c.args.count * c.args.count = omega (arith, all, end, test, most) in
    turned_all c.args.count c.args.links.now.items c.loop-place.links.items c.args.losses.now
    c.loop-place.losses (subst (λ k. HaveTurnedTo k c.args.links.now.items
    c.loop-place.links.items c.args.losses.now c.loop-place.losses) last c.loop-place.invariant.turned)

pub returns-clause-few : goal.returns-clause-few
returns-clause-few c =
    let all = c.requires.links.len in
    let end = c.len-place-end.ensures in
    let test = c.loop-place-test.false in
    let most = c.loop-place.auto.place-end in
    let last : c.loop-place.place ≡ c.args.count * c.args.count = omega (arith, all, end, test, most) in
    turned_few c.args.count c.args.links.now.items c.loop-place.links.items c.args.losses.now
    c.loop-place.losses (subst (λ k. HaveTurnedTo k c.args.links.now.items
    c.loop-place.links.items c.args.losses.now c.loop-place.losses) last c.loop-place.invariant.turned)
