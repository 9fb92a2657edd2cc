-- One word more, and the takes of one node more.
use Rattle.std.proofs.Common.{◌∙◌, ◌≤◌, [], map, arith}
use Rattle.std.specs.Prelude.{filter}
use Rattle.std.specs.List.{range_with_len}
use Rattle.lane_model.specs.Nodes.{processors}
use Rattle.lane_model.specs.Core.{Exec}
use Rattle.smp_sim.specs.CoreParts.{core_of, work_of}
use Rattle.smp_sim.proofs.CoreRuns.{few_nodes}
use Rattle.smp_sim.specs.ByOrder.{is_allowed, takes_at}
use Rattle.smp_sim.proofs.Choices.{node_more, one_more}
use Rattle.smp_sim.proofs.listing.list_events.Goals as goal

pub loop-processor-preserved : goal.loop-processor-preserved
loop-processor-preserved c =
    let p = c.args.core.now in
    let l = c.loop-processor in
    record {
      listed = one_more (is_allowed (work_of p) (core_of p)) (λ q. Exec q) l.processor [] _ _
          l.invariant.listed c.list_event.ensures.listed;
      few = omega (arith, c.list_event.ensures.few, l.invariant.few);
      room = c.list_event.ensures.room ∙ l.invariant.room;
    }

pub loop-node-preserved : goal.loop-node-preserved
loop-node-preserved c =
    let p = c.args.core.now in
    let l = c.loop-node in
    let allowed = is_allowed (work_of p) (core_of p) in
    let low : p.layout.nodes ≤ 16 = few_nodes p.layout.nodes p.lanes c.lanes.ensures.some c.lanes.ensures.few in
    record {
      listed = node_more allowed (takes_at p.layout.nodes) l.node
          (filter allowed (map (λ q. Exec q) (range_with_len 0 (processors (work_of p))))) _ _
          l.invariant.listed c.list_takes.ensures.listed;
      few = omega (arith, c.list_takes.ensures.few, l.invariant.few, low);
      room = c.list_takes.ensures.room ∙ l.invariant.room;
    }
