-- A run by an order, on such a machine, is of the inputs.
use Rattle.std.proofs.Common.{◌≡◌, ℕ, ◌<◌, ◌≤◌, List, [], ◌∷◌, ◌++◌, refl, sym, ap, subst, ◌∙◌}
use Rattle.elf32_read.specs.Elf.{Elf}
use Rattle.templates.specs.declared.plans.PlanEntry.{PlanEntry}
use Rattle.jump_map.specs.Image.{IsRewriting}
use Rattle.rewriting_law.specs.Bounds.{RunsRewritten}
use Rattle.lane_model.specs.Nodes.{LaneWork, processors}
use Rattle.lane_model.specs.Core.{LaneCore, LaneEvent, IsLaneRun, event_step, opening_core as opening_lanes, after as after_lanes}
use Rattle.lane_law.specs.Law.{RunsOnLanes, Interleaves, AllLicensed, IsCoherent, SameReservations, StopsAtBudget, AreEmpty, original_after, AreAllOver as AreLanesOver}
use Rattle.smp_sim.specs.CoreParts.{work_with}
use Rattle.smp_sim.specs.ByOrder.{IsLaneOutcomeByOrder}
use Rattle.command_line.specs.declared.Machine.{Machine}
use Rattle.command_line.specs.declared.Machine.TheVariants.{Plain, Lossy, Lanes}
use Rattle.command_line.specs.Meaning.{lanes_of, loss_of}
use Rattle.node_model.specs.Node.{Work, standing_of}
use Rattle.node_model.specs.Core.{Core, IsOver, opening_core, after}
use Rattle.node_model.specs.Outcome.{Outcome}
use Rattle.shared_sim.specs.ByOrder.{IsOutcomeByOrder}
use Rattle.lossy_sim.specs.UnderWay.{StandFor}
use Rattle.lossy_sim.specs.WithLoss.{State, AreAllOver, IsOutcomeWithLoss, ordinary}
use Rattle.prepared_run.specs.Ready.{GivesRuns, IsAskedWork}
use Rattle.commands.specs.Headline.{IsOutcomeOfLaneSim, IsOutcomeOfLosslessSim, IsOutcomeOfLossySim, IsOutcomeOfSim}
use Rattle.commands.specs.LaneRuns.{IsWholeLaneRun}
use Rattle.commands.specs.Runs.{IsOutcomeOn, IsOutcomeOnLanes}
use Rattle.judged_files.specs.Inputs.{Inputs}

-- nodes that stand for a core are over where its nodes are
over_core : (work : Work) (last : State) (core : Core)
    → StandFor work.layout.nodes last.nodes last.links core → AreAllOver work last
    → IsOver work core
over_core work last core stand over i low =
    sym (ap (standing_of work) (stand.nodes i low)) ∙ over i low

of_lossless : (inputs : Inputs) (nodes order budget : ℕ) (work : Work) (o : Outcome)
    → GivesRuns inputs nodes budget work → IsOutcomeByOrder work order o
    → IsOutcomeOfLosslessSim inputs nodes order budget o
of_lossless inputs nodes order budget work o gives ran = record {
  work = work;
  own = ran.own;
  is_run = gives (after work (opening_core work) ran.events) ran.own o ran.stands ran.over
      ran.outcome;
  events = ran.events;
  ordered = ran.ordered;
  over = ran.over;
  stands = ran.stands;
}

of_lossy : (inputs : Inputs) (nodes order budget loss : ℕ) (work : Work) (o : Outcome)
    → GivesRuns inputs nodes budget work → IsOutcomeWithLoss work order loss o
    → IsOutcomeOfLossySim inputs nodes order budget loss o
of_lossy inputs nodes order budget loss work o gives ran =
    let core = after work (opening_core work) (ordinary ran.turns) in
    record {
      work = work;
      own = ran.own;
      is_run = gives core ran.own o ran.stands (over_core work ran.last core ran.stand ran.over)
          ran.outcome;
      turns = ran.turns;
      last = ran.last;
      follows = ran.follows;
      over = ran.over;
      stand = ran.stand;
      stands = ran.stands;
    }

-- ---- nodes of several processors

abbrev AllLaneRuns : (LaneWork → List PlanEntry → List LaneEvent → Type 0) → Type 0
AllLaneRuns Has = (w : LaneWork) (plan : List PlanEntry) (events : List LaneEvent)
    → RunsOnLanes w plan → IsLaneRun w (opening_lanes w) events → Has w plan events

-- the laws of such nodes
pub record HaveLaneLaws : Type 0 where
  pub law : AllLaneRuns Interleaves
  pub licensed : AllLaneRuns (λ w plan events. AllLicensed w plan (opening_lanes w) events)
  pub coherent : AllLaneRuns (λ w plan events. IsCoherent w (after_lanes w (opening_lanes w) events)
      (original_after w plan events).shared)
  pub reservations : AllLaneRuns (λ w plan events. SameReservations w
      (after_lanes w (opening_lanes w) events) (original_after w plan events))
  pub stopped : AllLaneRuns (λ w plan events. StopsAtBudget w
      (after_lanes w (opening_lanes w) events))
  pub empty : AllLaneRuns (λ w plan events. AreLanesOver w
      (after_lanes w (opening_lanes w) events)
      → AreEmpty w (after_lanes w (opening_lanes w) events))

-- the front of a run is a run
lane_run_front : (w : LaneWork) (before behind : List LaneEvent) (c : LaneCore)
    → IsLaneRun w c (before ++ behind) → IsLaneRun w c before
lane_run_front w [] behind c may = tt
lane_run_front w (e ∷ es) behind c may =
    (may.0, lane_run_front w es behind (event_step w c e) may.1)

runs_on_lanes : (w : LaneWork) (plan : List PlanEntry) → RunsRewritten w.work → 0 < w.lanes
    → w.lanes ≤ 4 → processors w ≤ 16 → IsRewriting w.work.program plan w.work.image
    → RunsOnLanes w plan
runs_on_lanes w plan runs some four few rewriting = record {
  accepted = runs.accepted;
  valid = runs.valid;
  laid_over = runs.laid_over;
  rewriting = rewriting;
  some = some;
  four = four;
  few = few;
}

whole_on_lanes : (w : LaneWork) (plan : List PlanEntry) (order : ℕ) (o : Outcome) → HaveLaneLaws
    → RunsOnLanes w plan → (ran : IsLaneOutcomeByOrder w order o)
    → IsWholeLaneRun w plan ran.events o
whole_on_lanes w plan order o laws runs ran =
    let events = ran.events in
    let is_run = ran.run.is_run in
    let front : (before behind : List LaneEvent) → before ++ behind ≡ events
    → IsLaneRun w (opening_lanes w) before =
    λ before behind is. lane_run_front w before behind (opening_lanes w)
    (subst (IsLaneRun w (opening_lanes w)) (sym is) is_run) in
    let same : Interleaves w plan events = laws.law w plan events runs is_run in
    record {
      run = is_run;
      over = ran.run.over;
      ends = ran.outcome.ends;
      counts = ran.outcome.counts;
      original = same;
      output = ran.outcome.output ∙ sym same.output;
      licensed = laws.licensed w plan events runs is_run;
      coherent = λ before behind is. laws.coherent w plan before runs (front before behind is);
      reservations = λ before behind is.
          laws.reservations w plan before runs (front before behind is);
      stopped = laws.stopped w plan events runs is_run;
      empty = laws.empty w plan events runs is_run ran.run.over;
    }

pub on_lanes : (w : LaneWork) (order : ℕ) (o : Outcome) → HaveLaneLaws → RunsRewritten w.work
    → 0 < w.lanes → w.lanes ≤ 4 → processors w ≤ 16 → IsLaneOutcomeByOrder w order o
    → IsOutcomeOnLanes w order o
on_lanes w order o laws runs some four few ran = record {
  events = ran.events;
  ordered = ran.run.ordered;
  runs = λ plan rewriting. runs_on_lanes w plan runs some four few rewriting;
  whole = λ plan on. whole_on_lanes w plan order o laws on ran;
}

of_lanes : (inputs : Inputs) (nodes lanes order budget : ℕ) (elf : Elf) (plan : List PlanEntry)
    (work : Work) (o : Outcome) → IsAskedWork inputs nodes budget elf plan work
    → IsOutcomeOnLanes (work_with work lanes) order o
    → IsOutcomeOfLaneSim inputs nodes lanes order budget o
of_lanes inputs nodes lanes order budget elf plan work o asked ran =
    let runs = ran.runs plan
    (subst (λ p. IsRewriting p plan work.image) (sym asked.program) asked.rewritten.rewriting) in
    record {
      work = work_with work lanes;
      events = ran.events;
      is_run = record {
        elf = elf;
        plan = plan;
        asked = asked;
        lanes_are = refl;
        runs = runs;
        whole = ran.whole plan runs;
      };
      ordered = ran.ordered;
    }

pub is_of_sim : (inputs : Inputs) (nodes order budget : ℕ) (machine : Machine) (elf : Elf)
    (plan : List PlanEntry) (work : Work) (o : Outcome) → GivesRuns inputs nodes budget work
    → IsAskedWork inputs nodes budget elf plan work → IsOutcomeOn machine work order o
    → IsOutcomeOfSim inputs nodes order budget (lanes_of machine) (loss_of machine) o
is_of_sim inputs nodes order budget Plain elf plan work o gives asked ran =
    of_lossless inputs nodes order budget work o gives ran
is_of_sim inputs nodes order budget (Lossy loss) elf plan work o gives asked ran =
    of_lossy inputs nodes order budget loss work o gives ran
is_of_sim inputs nodes order budget (Lanes lanes) elf plan work o gives asked ran =
    of_lanes inputs nodes lanes order budget elf plan work o asked ran
