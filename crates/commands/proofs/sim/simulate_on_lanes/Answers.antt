use Rattle.std.proofs.Common.{subst, arith}
use Rattle.dsm_core.specs.CoreParts.{outcome_of, work_in}
use Rattle.smp_sim.specs.CoreParts.{work_with}
use Rattle.smp_sim.specs.ByOrder.{IsLaneOutcomeByOrder}
use Rattle.commands.specs.Runs.{IsOutcomeOnLanes}
use Rattle.commands.proofs.AnswerLemmas.{ok_as}
use Rattle.commands.proofs.SimLemmas.{HaveLaneLaws, on_lanes}
use Rattle.commands.proofs.sim.simulate_on_lanes.Goals as goal

pub returns : goal.returns
returns c =
    let work = work_in c.args.work.now in
    let lanes = c.args.lanes in
    let value = c.as_u8.ensures.value in
    let low = c.as_u8.ensures.range.0 in
    let high = c.as_u8.ensures.range.1 in
    let laws : HaveLaneLaws = record {
      law = c.lane_law.ensures.interleaves;
      licensed = c.lane_law.ensures.licensed;
      coherent = c.lane_law.ensures.coherent;
      reservations = c.lane_law.ensures.reservations;
      stopped = c.lane_law.ensures.stopped;
      empty = c.lane_progress_law.ensures.over;
    } in
    record {
      outcome = ok_as (λ o. IsLaneOutcomeByOrder (work_with work c.as_u8.result) c.args.order (outcome_of o))
          (λ o. IsOutcomeOnLanes (work_with work lanes) c.args.order (outcome_of o))
          c.smp_simulate.result
          (λ o ran. on_lanes (work_with work lanes) c.args.order (outcome_of o) laws c.requires.rewritten
          (omega (arith, value, low)) (omega (arith, value, high)) c.requires.few
          (subst (λ n. IsLaneOutcomeByOrder (work_with work n) c.args.order (outcome_of o)) value ran))
          c.smp_simulate.ensures.outcome;
    }
