-- How the processors of a core that is over ended, and what a run's outcome is.
use Rattle.std.proofs.Common.{◌≡◌, ℕ, zero, suc, ◌+◌, ◌<◌, ◌&&◌, Bool, true, false, List, ◌∷◌, map, Some, None, refl, sym, ap, ap₂, ◌∙◌, inl, inr, arith}
use Rattle.std.specs.List.{range_with_len}
use Rattle.std.proofs.lemmas.Bool.Decides.{eqb_tells}
use Rattle.rv32_program.specs.declared.End.{End}
use Rattle.lane_model.specs.node_model.Node.{Phase, Running, Resumed, Waiting, Ended, end_of, has_all_byes}
use Rattle.lane_model.specs.node_model.Turns.{is_ended}
use Rattle.lane_model.specs.node_model.Outcome.{Outcome}
use Rattle.lane_model.specs.Nodes.{LaneWork, LaneNode, all_lanes, as_node, processors, node_of, lane_of}
use Rattle.lane_model.specs.Turns.{has_ended, have_ended}
use Rattle.lane_model.specs.Core.{LaneEvent, after, is_over, opening_core}
use Rattle.lane_model.specs.Outcome.{IsLaneOutcomeOf}
use Rattle.smp_sim.specs.CoreParts.{CoreParts, IsRunTo, core_of, work_of}
use Rattle.smp_sim.proofs.CoreRuns.{placed}

-- 1. Each lane of a node that is over has ended

first_holds : (a b : Bool) → (a && b) ≡ true → a ≡ true
first_holds true b e = refl
first_holds false b e = e

second_holds : (a b : Bool) → (a && b) ≡ true → b ≡ true
second_holds true b e = e
second_holds false b e = absurd (cc)

all_at : (f : ℕ → Bool) (m k : ℕ) → all_lanes f m ≡ true → k < m → f k ≡ true
all_at f zero k all low = absurd (omega (arith, low))
all_at f (suc m) k all low = elim (eqb_tells k m) [
  | inl t ↦ ap f t.1 ∙ first_holds (f m) (all_lanes f m) all
  | inr t ↦ all_at f m k (second_holds (f m) (all_lanes f m) all)
      (let other = t.1 in omega (arith, other, low))
]

ends_in : (p : Phase) → is_ended p ≡ true → end_of p ≡ None → ⊥
ends_in (Ended e) ended none = absurd (cc)
ends_in Running ended none = absurd (cc)
ends_in Resumed ended none = absurd (cc)
ends_in (Waiting r) ended none = absurd (cc)

pub over_ends : (w : LaneWork) (x : LaneNode) (k : ℕ) → is_over w x ≡ true → k < w.lanes
    → end_of (x.lanes k).phase ≡ None → ⊥
over_ends w x k over low none = ends_in (x.lanes k).phase
    (all_at (has_ended x) w.lanes k
    (first_holds (have_ended w x) (has_all_byes w.work (as_node x 0)) over) low) none

-- 2. The outcome of a run that leads to the core

map_below : {X : Type 0} (f g : ℕ → X) (a k : ℕ) → ((i : ℕ) → i < a + k → f i ≡ g i)
    → map f (range_with_len a k) ≡ map g (range_with_len a k)
map_below f g a zero same = refl
map_below {X} f g a (suc k) same = ap₂ (λ (x : X) (xs : List X). x ∷ xs)
    (same a (omega arith)) (map_below f g (a + 1) k (λ i lt. same i (omega (arith, lt))))

pub outcome_is : (p : CoreParts) (run : List LaneEvent) (o : Outcome) → 0 < p.lanes
    → o.output ≡ p.output
    → map (λ (e : End). Some e) o.ends
    ≡ map (λ q. end_of (((core_of p).nodes (node_of (work_of p) q)).lanes
    (lane_of (work_of p) q)).phase) (range_with_len 0 (processors (work_of p)))
    → o.counts ≡ map (λ i. ((core_of p).nodes i).shared.counts) (range_with_len 0 p.layout.nodes)
    → IsRunTo run p → IsLaneOutcomeOf (work_of p) run o
outcome_is p run o some output ends counts to =
    let w = work_of p in
    let last = after w (opening_core w) run in
    record {
      output = output ∙ to.output;
      ends = map_below (λ q. end_of ((last.nodes (node_of w q)).lanes (lane_of w q)).phase)
          (λ q. end_of (((core_of p).nodes (node_of w q)).lanes (lane_of w q)).phase)
          0 (processors w)
          (λ q lt. ap (λ (x : LaneNode). end_of (x.lanes (lane_of w q)).phase)
          (sym (to.leads.nodes (node_of w q) (placed w q some (omega (arith, lt)))))) ∙ sym ends;
      counts = counts ∙ map_below (λ i. ((core_of p).nodes i).shared.counts)
          (λ i. (last.nodes i).shared.counts) 0 p.layout.nodes
          (λ i lt. ap (λ (x : LaneNode). x.shared.counts) (to.leads.nodes i (omega (arith, lt))));
    }
