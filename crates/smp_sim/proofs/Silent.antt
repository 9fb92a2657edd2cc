-- A word that sends nothing, and behind which its processor may execute another, leaves what is
-- allowed as it was, where no message is on its way to its node.
use Rattle.std.proofs.Common.{◌≡◌, ◌≢◌, ℕ, ◌<◌, ◌&&◌, ◌||◌, Bool, true, false, cond, eqb, not, List, ◌++◌, arith, refl, sym, ap, ◌∙◌, inl, inr}
use Rattle.std.proofs.lemmas.List.{append-nil}
use Rattle.std.proofs.Math.Path.{fun_ext}
use Rattle.std.proofs.lemmas.Bool.Decides.{eqb_tells, nat_tests}
use Rattle.lane_model.specs.node_model.declared.Standing.TheVariants as standing
use Rattle.lane_model.specs.node_model.Node.{Phase, Running, Resumed, Waiting, Ended, can_execute}
use Rattle.lane_model.specs.node_model.Core.{may_take, wires_to}
use Rattle.home_directory.specs.dsm_messages.declared.messages.Wire.{Wire}
use Rattle.lane_model.specs.Nodes.{LaneNode, LanePart, LaneWork, all_lanes, lane_of, node_of, some_lane}
use Rattle.lane_model.specs.Turns.{LaneTurn, have_ended, word_before, word_turn}
use Rattle.lane_model.specs.Core.{LaneCore, LaneEvent, Exec, Take, May, event_step, lane_lets, lowers_first, may_take_first, standing_in, standing_of}
use Rattle.shared_sim.specs.ByOrder.{has_wire}
use Rattle.smp_sim.specs.CoreParts.{AreAlike}
use Rattle.smp_sim.specs.CoreSteps.{IsShut, IsSilent}
use Rattle.smp_sim.specs.ByOrder.{all_events, choices, is_allowed}
use Rattle.smp_sim.specs.Listing.{IsThere}
use Rattle.smp_sim.proofs.Choices.{all_there, choices_alike, same_filtered}
use Rattle.smp_sim.proofs.CoreRuns.{placed}
use Rattle.lane_machine.proofs.LanesTold.{and_false, lane_not, may_is}
use Rattle.lane_machine.proofs.NodeLemmas.{byes_node}

-- what a lane may do next is told by its own part
pub stands_same : (w : LaneWork) (x y : LaneNode) (k : ℕ) → x.lanes k ≡ y.lanes k
    → standing_of w x k ≡ standing_of w y k
stands_same w x y k is = by_phase (x.lanes k).phase
    ∙ (λ t. standing_in w (record { lanes = λ j. is t; shared = y.shared }) k (is t).phase)
    ∙ sym (own (y.lanes k).phase)
  where
    by_phase : (p : Phase) → standing_in w x k p
        ≡ standing_in w (record { lanes = λ j. x.lanes k; shared = y.shared }) k p
    by_phase Running = refl
    by_phase Resumed = refl
    by_phase (Waiting r) = refl
    by_phase (Ended e) = refl

    own : (p : Phase) → standing_in w y k p
        ≡ standing_in w (record { lanes = λ j. y.lanes k; shared = y.shared }) k p
    own Running = refl
    own Resumed = refl
    own (Waiting r) = refl
    own (Ended e) = refl

-- a message that takes a block away isn't taken where a lane lets none of those in
held_out : (w : LaneWork) (x : LaneNode) (ws : List Wire) (j : ℕ) → lowers_first ws ≡ true
    → j < w.lanes → lane_lets w x j ≡ false → has_wire ws && may_take_first w x ws ≡ false
held_out w x ws j lowers low holds =
    let all : all_lanes (lane_lets w x) w.lanes ≡ false = lane_not (lane_lets w x) w.lanes j low holds in
    (λ s. has_wire ws && (some_lane (lane_lets w x) w.lanes && (not (lowers s) || all s)))
    ∙ ap (λ z. has_wire ws && z) (and_false (some_lane (lane_lets w x) w.lanes))
    ∙ and_false (has_wire ws)

module _ (w : LaneWork) (c : LaneCore) (p : ℕ) (some : 0 < w.lanes) (may : May w c (Exec p))
    (is : IsSilent w c p) where
  abbrev i : ℕ
  i = node_of w p

  abbrev k : ℕ
  k = lane_of w p

  abbrev x : LaneNode
  x = c.nodes i

  abbrev t : LaneTurn
  t = word_turn w x k

  abbrev d : LaneCore
  d = event_step w c (Exec p)

  other_lane : (j : ℕ) → j ≢ k → t.node.lanes j ≡ x.lanes j
  other_lane j apart =
      let same : (word_before w x k).node.lanes j ≡ x.lanes j = elim (eqb_tells j k) [
        | inl e ↦ absurd (apart e.1)
        | inr e ↦ rw e.0 refl
      ] in
      ap (λ (z : LaneNode). z.lanes j) (byes_node w.work.layout.nodes (word_before w x k)
      (have_ended w (word_before w x k).node && not (have_ended w x))) ∙ same

  can_at : (j : ℕ) → can_execute (t.node.lanes j).phase ≡ can_execute (x.lanes j).phase
  can_at j = elim (eqb_tells j k) [
    | inl e ↦ ap (λ z. can_execute (t.node.lanes z).phase) e.1 ∙ is.may
        ∙ sym (ap (λ z. can_execute (x.lanes z).phase) e.1
        ∙ sym (may_is w x k (x.lanes k).phase) ∙ may.1)
    | inr e ↦ ap (λ (z : LanePart). can_execute z.phase) (other_lane j e.1)
  ]

  list_same : (j m : ℕ) → d.list j m ≡ c.list j m
  list_same j m = go (eqb j i)
    where
      go : (b : Bool)
          → cond b (c.list j m ++ wires_to t.node.shared.stamp m t.sends) (c.list j m) ≡ c.list j m
      go true = ap (λ ps. c.list j m ++ wires_to t.node.shared.stamp m ps) is.sends
          ∙ append-nil (c.list j m)
      go false = refl

  phase_same : (q : ℕ) → can_execute ((d.nodes (node_of w q)).lanes (lane_of w q)).phase
      ≡ can_execute ((c.nodes (node_of w q)).lanes (lane_of w q)).phase
  phase_same q = elim (eqb_tells (node_of w q) i) [
    | inl e ↦ (let there : d.nodes (node_of w q) ≡ t.node = rw e.0 refl in
        ap (λ (z : LaneNode). can_execute (z.lanes (lane_of w q)).phase) there
        ∙ can_at (lane_of w q)
        ∙ ap (λ z. can_execute ((c.nodes z).lanes (lane_of w q)).phase) (sym e.1))
    | inr e ↦ (let there : d.nodes (node_of w q) ≡ c.nodes (node_of w q) = rw e.0 refl in
        ap (λ (z : LaneNode). can_execute (z.lanes (lane_of w q)).phase) there)
  ]

  word_same : (q : ℕ) → is_allowed w d (Exec q) ≡ is_allowed w c (Exec q)
  word_same q =
      let there = d.nodes (node_of w q) in
      let here = c.nodes (node_of w q) in
      may_is w there (lane_of w q) (there.lanes (lane_of w q)).phase ∙ phase_same q
      ∙ sym (may_is w here (lane_of w q) (here.lanes (lane_of w q)).phase)

  -- another lane that lets no message in that takes a block away does so still
  not_taken : (j : ℕ) → IsShut w x k (c.list j i) → is_allowed w c (Take i j) ≡ false
  not_taken j (inl none) = ap (λ ws. has_wire ws && may_take_first w x ws) none
  not_taken j (inr shut) = held_out w x (c.list j i) shut.1.lane shut.0 shut.1.low shut.1.holds

  not_taken_then : (j : ℕ) → IsShut w x k (c.list j i)
      → has_wire (d.list j i) && may_take_first w t.node (d.list j i) ≡ false
  not_taken_then j (inl none) =
      ap (λ ws. has_wire ws && may_take_first w t.node ws) (list_same j i ∙ none)
  not_taken_then j (inr shut) =
      let h = shut.1 in
      held_out w t.node (d.list j i) h.lane (ap lowers_first (list_same j i) ∙ shut.0) h.low
      (ap may_take (stands_same w t.node x h.lane (other_lane h.lane h.other)) ∙ h.holds)

  take_same : (m j : ℕ) → IsShut w x k (c.list j i)
      → is_allowed w d (Take m j) ≡ is_allowed w c (Take m j)
  take_same m j shut = elim (eqb_tells m i) [
    | inl e ↦ (let there : d.nodes m ≡ t.node = rw e.0 refl in
        ap (λ z. has_wire (d.list j m) && may_take_first w z (d.list j m)) there
        ∙ ap (λ n. has_wire (d.list j n) && may_take_first w t.node (d.list j n)) e.1
        ∙ not_taken_then j shut ∙ sym (not_taken j shut)
        ∙ ap (λ n. is_allowed w c (Take n j)) (sym e.1))
    | inr e ↦ (let there : d.nodes m ≡ c.nodes m = rw e.0 refl in
        λ s. has_wire (list_same j m s) && may_take_first w (there s) (list_same j m s))
  ]

  same_event : ((j : ℕ) → j < w.work.layout.nodes → IsShut w x k (c.list j i)) → (e : LaneEvent)
      → IsThere w e → is_allowed w d e ≡ is_allowed w c e
  same_event shut (Exec q) low = word_same q
  same_event shut (Take m j) low = take_same m j (shut j low.1)

  pub silent_choices : (f : LaneCore) → AreAlike w.work.layout.nodes f d
      → ((j : ℕ) → j < w.work.layout.nodes → IsShut w x k (c.list j i))
      → choices w f ≡ choices w c
  silent_choices f alike shut = choices_alike w f d some alike
      ∙ same_filtered w (is_allowed w d) (is_allowed w c) (all_events w) (all_there w)
      (same_event shut)

  -- where the processor stands as before, messages on their way to its node change nothing
  lets_same : standing_of w t.node k ≡ standing_of w x k → (j : ℕ)
      → lane_lets w t.node j ≡ lane_lets w x j
  lets_same stands j = elim (eqb_tells j k) [
    | inl e ↦ ap (lane_lets w t.node) e.1 ∙ ap may_take stands ∙ sym (ap (lane_lets w x) e.1)
    | inr e ↦ ap may_take (stands_same w t.node x j (other_lane j e.1))
  ]

  first_same : standing_of w t.node k ≡ standing_of w x k → (ws : List Wire)
      → may_take_first w t.node ws ≡ may_take_first w x ws
  first_same stands ws =
      let lets : lane_lets w t.node ≡ lane_lets w x = fun_ext (lets_same stands) in
      λ s. some_lane (lets s) w.lanes && (not (lowers_first ws) || all_lanes (lets s) w.lanes)

  still_takes : standing_of w t.node k ≡ standing_of w x k → (m j : ℕ)
      → is_allowed w d (Take m j) ≡ is_allowed w c (Take m j)
  still_takes stands m j =
      ap (λ ws. has_wire ws && may_take_first w (d.nodes m) ws) (list_same j m)
      ∙ ap (λ z. has_wire (c.list j m) && z) (here (c.list j m))
    where
      here : (ws : List Wire) → may_take_first w (d.nodes m) ws ≡ may_take_first w (c.nodes m) ws
      here ws = elim (eqb_tells m i) [
        | inl e ↦ (let there : d.nodes m ≡ t.node = rw e.0 refl in
            ap (λ z. may_take_first w z ws) there ∙ first_same stands ws
            ∙ ap (λ z. may_take_first w (c.nodes z) ws) (sym e.1))
        | inr e ↦ (let there : d.nodes m ≡ c.nodes m = rw e.0 refl in
            ap (λ z. may_take_first w z ws) there)
      ]

  still_allowed : standing_of w t.node k ≡ standing_of w x k → (e : LaneEvent) → IsThere w e
      → is_allowed w d e ≡ is_allowed w c e
  still_allowed stands (Exec q) low = word_same q
  still_allowed stands (Take m j) low = still_takes stands m j

  pub standing_choices : (f : LaneCore) → AreAlike w.work.layout.nodes f d
      → standing_of w (f.nodes i) k ≡ standing_of w x k → choices w f ≡ choices w c
  standing_choices f alike stands =
      let here : d.nodes i ≡ t.node = (let same : eqb i i ≡ true = grind (arith, nat_tests) in rw same refl) in
      let node = alike.nodes i (placed w p some may.0) ∙ here in
      choices_alike w f d some alike
      ∙ same_filtered w (is_allowed w d) (is_allowed w c) (all_events w) (all_there w)
      (still_allowed (ap (λ z. standing_of w z k) (sym node) ∙ stands))
