-- The law of nodes of several processors, from the code's side and the directory protocol's.
use Rattle.std.proofs.Common.{◌≡◌, ◌*◌, List, sym, ap, ◌∙◌, inl, inr, arith, ◌<◌, ◌≤◌, length}
use Rattle.lane_law.proofs.Names.{block_of, Exited, Stopped, line_of, Processor, opening, PlanEntry, ProcessorState, NodeMemory, Phase, Running, Resumed, Waiting, Ended, is_readable_state, is_writable_state, LaneWork, LanePart, processors, node_of, LaneCore, LaneEvent, IsLaneRun, opening_core, after, RunsOnLanes, AllLicensed, Interleaves, IsCoherent, SameReservations, StopsAtBudget, GoesOn, AreAllOver, AreEmpty, HaveRows, most_lane_events, original_by_lane, original_after}
use Rattle.rewriting_law.proofs.protocol_side.DirectorySide.{Layout, laid_out, coherent as nodes_coherent, alone, flagged}
use Rattle.rewriting_law.proofs.runs.TurnTies.{rest_at}
use Rattle.lane_law.proofs.LaneCode.{LaneCode, lane_code}
use Rattle.lane_law.proofs.LaneMatching.{Doing, Runs, Awaits, HasEnded, StandsIn}
use Rattle.lane_law.proofs.LaneTies.{view}
use Rattle.lane_law.proofs.LaneCores.{part_in, lanes_in, locals_in, at_node, protocol, side, laid, IsPart}
use Rattle.lane_law.proofs.LaneRuns.{Composes, composes_from_start}
use Rattle.lane_law.proofs.LaneStuck.{never_stuck, over, rows}
use Rattle.lane_law.proofs.LaneShort.{short}

module _ (w : LaneWork) (plan : List PlanEntry) (good : RunsOnLanes w plan) (lay : Layout w.work)
    (es : List LaneEvent) (may : IsLaneRun w (opening_core w) es) where
  abbrev code : LaneCode w.work.layout w.work (processors w) plan
  code = lane_code w.work.layout w.work (processors w) plan good.accepted good.rewriting
      (laid_out w.work lay)

  abbrev core : LaneCore
  core = after w (opening_core w) es

  composed : Composes w plan lay good.some code good.four good.few (opening_core w)
      (opening (original_by_lane w)) es
  composed = composes_from_start w plan lay good.some code good.four good.few es may

  pub interleaves : Interleaves w plan es
  interleaves =
      let f = composed.follows in
      record {
        allowed = f.advanced.allowed;
        values = λ p low. f.advanced.same_values p;
        output = f.advanced.output;
        ends = f.ends;
      }

  pub licensed : AllLicensed w plan (opening_core w) es
  licensed = composed.licensed

  pub coherent : IsCoherent w core (original_after w plan es).shared
  coherent =
      let memory = (original_after w plan es).shared in
      let locals = locals_in core.nodes in
      let rest = rest_at composed.matches.counts (view core 0) in
      let held = composed.matches.matches.shares.held in
      record {
        reads = λ i a low shared readable.
            nodes_coherent w.work lay locals rest memory held i low a shared readable;
        flags = λ i a low shared unreadable.
            flagged w.work lay locals rest memory held i low a shared unreadable;
        one_writer = λ i j x y b low_i low_j at_x at_y writable readable.
            let is_x : line_of (64 * x) ≡ x = omega arith in
            let is_y : line_of (64 * y) ≡ y = omega arith in
            alone w.work lay locals rest memory held i j low_i low_j (64 * x) (64 * y) b
            (ap (block_of w.work.layout) is_x ∙ at_x) (ap (block_of w.work.layout) is_y ∙ at_y)
            (ap (λ z. is_writable_state ((locals i).state z)) is_x ∙ writable)
            (ap (λ z. is_readable_state ((locals j).state z)) is_y ∙ readable);
      }

  pub same_reservations : SameReservations w core (original_after w plan es)
  same_reservations p low = composed.matches.matches.shares.reservations p low

  -- a processor that is stopped has executed its budget
  pub stops : StopsAtBudget w core
  stops p budget low h =
      by (composed.matches.doing p) (part_in w core.nodes p)
      ((original_after w plan es).processors p) (lanes_in w core.nodes p) _
      (composed.matches.parts p low) (composed.matches.matches.stands p low) h
    where
      ended_there : (part : LanePart) (phase : Phase) → part.phase ≡ phase
          → part.phase ≡ Ended (Stopped budget) → phase ≡ Ended (Stopped budget)
      ended_there part phase is e = sym is ∙ e

      by : (a : Doing) (part : LanePart) (q : Processor) (l : ProcessorState) (n : NodeMemory)
          → IsPart w plan lay good.some code a part
          → StandsIn w.work.layout w.work (processors w) (node_of w)
          (at_node w plan lay good.some code) plan code (protocol w plan lay good.some code)
          (side w plan lay good.some code) (laid w plan lay good.some code) a q l n
          → part.phase ≡ Ended (Stopped budget)
          → (budget ≡ w.work.budget) × (part.executed ≡ w.work.budget)
      by Runs part q l n (inl is) g e =
          let bad : Running ≡ Ended (Stopped budget) = ended_there part Running is e in cc
      by Runs part q l n (inr is) g e =
          let bad : Resumed ≡ Ended (Stopped budget) = ended_there part Resumed is e in cc
      by (Awaits resume want more again) part q l n is g e =
          let bad : Waiting resume ≡ Ended (Stopped budget) =
          ended_there part (Waiting resume) is.0 e in cc
      by (HasEnded (Exited exit)) part q l n is g e =
          let bad : Ended (Exited exit) ≡ Ended (Stopped budget) =
          ended_there part (Ended (Exited exit)) is.0 e in cc
      by (HasEnded (Stopped b)) part q l n is g e =
          let same : Ended (Stopped b) ≡ Ended (Stopped budget) =
          ended_there part (Ended (Stopped b)) is.0 e in
          let equal : b ≡ budget = cc in
          (sym equal ∙ g.1, is.1)

  -- where a node isn't over some event is allowed
  pub goes_on : GoesOn w core
  goes_on = never_stuck w plan lay good.some code good.four good.few es may

  -- and the run is short
  pub run_short : 0 < w.work.budget → length es ≤ most_lane_events w
  run_short budget = short w plan lay good.some code good.four good.few budget es may

  -- and once all nodes are over every list is empty
  pub all_empty : AreAllOver w core → AreEmpty w core
  all_empty = over w plan lay good.some code good.four good.few es may

  -- and the first message of a list has its row
  pub have_rows : HaveRows w core
  have_rows = rows w plan lay good.some code good.four good.few es may
