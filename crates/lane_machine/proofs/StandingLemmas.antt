-- What a lane may do next, and whether its node is over.
use Rattle.std.proofs.Common.{◌≡◌, ◌↔◌, ℕ, ◌&&◌, Bool, true, false, cond, eqb, length, refl, sym, ◌∙◌}
use Rattle.home_directory.specs.Effects.{members}
use Rattle.home_directory.specs.Home.{count_of}
use Rattle.lane_model.specs.node_model.declared.Standing.TheVariants as standing
use Rattle.lane_model.specs.node_model.Node.{Phase, Running, Resumed, Waiting, Ended}
use Rattle.lane_model.specs.Nodes.{LaneWork, LanePart, LaneNode}
use Rattle.node_machine.specs.NodeState.{layout_of}
use Rattle.lane_model.specs.Core.{standing_in, standing_of, is_over}
use Rattle.lane_model.specs.Turns.{has_ended, have_ended}
use Rattle.lane_machine.specs.declared.stored.StoredShared.{StoredShared}
use Rattle.lane_machine.specs.Stored.{ended_in, shared_of}
use Rattle.lane_machine.proofs.ExecLemmas.{all_count}

-- it stands by its own part
pub stands_by : (w : LaneWork) (x : LaneNode) (k : ℕ) (p : LanePart) → x.lanes k ≡ p
    → standing_of w x k ≡ standing_in w (record { lanes = λ j. p; shared = x.shared }) k p.phase
stands_by w x k p is = by_phase (x.lanes k).phase
    ∙ (λ t. standing_in w (record { lanes = λ j. is t; shared = x.shared }) k (is t).phase)
  where
    by_phase : (ph : Phase) → standing_in w x k ph ≡ standing_in w (record { lanes = λ j. x.lanes k; shared = x.shared }) k ph
    by_phase Running = refl
    by_phase Resumed = refl
    by_phase (Waiting r) = refl
    by_phase (Ended e) = refl

-- a test of a standing that is Over or Ended
pub over_by : (t b : Bool) → (b ≡ true) ↔ (cond t standing.Over standing.Ended ≡ standing.Over) → b ≡ t
over_by true b is = is.1 refl
over_by false true is = let bad : standing.Ended ≡ standing.Over = is.0 refl in absurd (cc)
over_by false false is = refl

-- by how many lanes have ended, and the Byes taken
pub over_is : (w : LaneWork) (x : LaneNode) (f : StoredShared) → w.work.layout ≡ layout_of f.state.body.value
    → w.lanes ≡ length f.places.items → x.shared ≡ shared_of f → f.ended ≡ ended_in x w.lanes
    → is_over w x ≡ (eqb f.ended (length f.places.items)
    && eqb (count_of (members f.state.byes) (layout_of f.state.body.value).nodes) (layout_of f.state.body.value).nodes)
over_is w x f layout lanes shared ended =
    let have : have_ended w x ≡ eqb f.ended (length f.places.items) =
    all_count (has_ended x) w.lanes ∙ (λ t. eqb (sym ended t) (lanes t)) in
    λ t. have t && eqb (count_of (shared t).byes (layout t).nodes) (layout t).nodes
