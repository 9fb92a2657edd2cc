-- The events of one node after another.
use Rattle.std.proofs.Common.{◌≡◌, ap, sym, ◌∙◌, map, arith}
use Rattle.std.specs.Prelude.{filter}
use Rattle.std.specs.List.{flat_map, range_with_len}
use Rattle.dsm_core.specs.CoreParts.{event_of}
use Rattle.shared_sim.specs.ByOrder.{events_at, all_events}
use Rattle.lossy_sim.specs.Stored.{link_at, state_of}
use Rattle.lossy_sim.specs.WithLoss.{is_allowed}
use Rattle.lossy_sim.proofs.Listed.{node_more}
use Rattle.lossy_sim.proofs.listing.list.Goals as goal

pub loop-node-preserved : goal.loop-node-preserved
loop-node-preserved c =
    let l = c.loop-node in
    let old = l.invariant in
    let more = c.list_events.ensures in
    record {
      listed = λ work order losses e have.
          (let s = state_of work c.args.nodes.now c.args.links.now order losses in
          node_more (is_allowed work s) (events_at c.args.count) l.node (map event_of l.events.items) _
          (old.listed work order losses e have)
          (more.listed work s (ap (λ n. link_at c.args.links.now n) e) (sym (c.standing.ensures.value work have))));
      few = omega (arith, more.few, old.few);
      room = more.room ∙ old.room;
    }

pub returns-clause-value : goal.returns-clause-value
returns-clause-value c = λ work order losses e have.
    let l = c.loop-node in
    let p = is_allowed work (state_of work c.args.nodes.now c.args.links.now order losses) in
    let done : l.node ≡ c.args.count = omega (arith, c.loop-node-test.false, l.auto.node-end) in
    l.invariant.listed work order losses e have
    ∙ ap (λ k. filter p (flat_map (events_at c.args.count) (range_with_len 0 k))) done
    ∙ ap (λ n. filter p (all_events n)) (sym e)
