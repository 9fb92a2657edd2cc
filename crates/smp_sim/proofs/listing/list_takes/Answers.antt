-- One take more.
use Rattle.std.proofs.Common.{◌∙◌, map, arith}
use Rattle.lane_model.specs.Core.{Take}
use Rattle.smp_sim.specs.CoreParts.{core_of, event_of, work_of}
use Rattle.smp_sim.specs.ByOrder.{is_allowed}
use Rattle.smp_sim.proofs.Choices.{one_more}
use Rattle.smp_sim.proofs.listing.list_takes.Goals as goal

pub loop-from-preserved : goal.loop-from-preserved
loop-from-preserved c =
    let p = c.args.core.now in
    let l = c.loop-from in
    record {
      listed = one_more (is_allowed (work_of p) (core_of p)) (λ j. Take c.args.node j) l.from
          (map event_of c.args.events.now.items) _ _ l.invariant.listed c.list_event.ensures.listed;
      few = omega (arith, c.list_event.ensures.few, l.invariant.few);
      room = c.list_event.ensures.room ∙ l.invariant.room;
    }
