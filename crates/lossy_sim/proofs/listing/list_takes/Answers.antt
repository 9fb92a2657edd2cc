-- A message that has come may be taken.
use Rattle.std.proofs.Common.{ap, sym, ◌∙◌, map, length, length-append, arith}
use Rattle.std.specs.Vec.{vec_capacity, vec_items}
use Rattle.std.proofs.lemmas.List.{append-nil, map-append}
use Rattle.node_model.specs.Core.{Take}
use Rattle.dsm_core.specs.CoreParts.{event_of}
use Rattle.lossy_sim.specs.WithLoss.{is_allowed}
use Rattle.lossy_sim.proofs.Listed.{take_told, one_more}
use Rattle.lossy_sim.proofs.Stored.{link_read}
use Rattle.lossy_sim.proofs.listing.list_takes.Goals as goal
use Rattle.lossy_sim.proofs.listing.list_takes.Goals.{then-has_next, else-has_next}

pub loop-from-preserved : goal.loop-from-preserved
loop-from-preserved c =
    let i = c.args.node in
    let l = c.loop-from in
    let j = l.from in
    let few = l.invariant.few in
    let read = link_read c.args.links.now c.args.count j i c.index-links-from.result c.requires.links.len
    c.loop-from-test.true c.requires.node c.index-links-from.is in
    let before = map event_of c.args.events.now.items in
    let now = map event_of l.events.items in
    elim c.if-has_next.branch [
      | then-has_next w ↦
          (let items = ap vec_items w.events-is ∙ w.push_reserved.ensures.items in
          let len = ap length items ∙ length-append l.events.items _ in
          record {
            listed = λ work s stored may.
                ap (map event_of) items ∙ map-append event_of l.events.items _
                ∙ one_more (is_allowed work s) (λ k. Take i k) j _ before now
                (l.invariant.listed work s stored may)
                (take_told work s c.args.links.now c.args.count i j c.index-links-from.result _ stored may read
                c.has_next.ensures ∙ w.if-has_next.true);
            few = omega (arith, len, few);
            room = ap vec_capacity w.events-is ∙ w.push_reserved.ensures.capacity ∙ l.invariant.room;
          })
      | else-has_next w ↦
          (let items = ap vec_items w.events-is in
          let len = ap length items in
          record {
            listed = λ work s stored may.
                ap (map event_of) items ∙ sym (append-nil now)
                ∙ one_more (is_allowed work s) (λ k. Take i k) j _ before now
                (l.invariant.listed work s stored may)
                (take_told work s c.args.links.now c.args.count i j c.index-links-from.result _ stored may read
                c.has_next.ensures ∙ w.if-has_next.false);
            few = omega (arith, len, few);
            room = ap vec_capacity w.events-is ∙ l.invariant.room;
          })
    ]
