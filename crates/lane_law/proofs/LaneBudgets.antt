-- No lane executes more words than its budget.
use Rattle.std.proofs.Common.{◌≡◌, ℕ, ◌+◌, ◌<◌, ◌≤◌, cond, eqb, Bool, true, false, List, [], ◌∷◌, None, refl, sym, ap, ◌∙◌, subst, arith}
use Rattle.std.specs.Prelude.{◌&&◌, not}
use Rattle.lane_law.proofs.Names.{Wire, Node, Phase, Running, Resumed, Waiting, Ended, can_execute, word_outcome, after_word, may_execute, LaneWork, LanePart, LaneNode, as_node, node_of, lane_of, LaneTurn, resume_part, resumed, still, part_after, wants_at, have_ended, word_before, word_turn, handled_for, after_message, take_turn, LaneCore, LaneEvent, Exec, Take, IsLaneRun, standing_in, take_first, event_step, after}
use Rattle.rewriting_law.proofs.progress.Budgets.{stop_less, move_less}
use Rattle.lane_law.proofs.LaneWords.{asks_same}
use Rattle.lane_law.proofs.LaneClosing.{ending_node}

-- 1. The lanes of a node that makes a turn

module _ (w : LaneWork) where
  -- after a word of lane k
  pub word_lane : (x : LaneNode) (k j : ℕ)
      → (word_turn w x k).node.lanes j ≡ cond (eqb j k) (part_after w x k) (x.lanes j)
  word_lane x k j =
      ap (λ (n : LaneNode). n.lanes j)
      (ending_node w.work.layout.nodes (word_before w x k)
      (have_ended w (word_before w x k).node && not (have_ended w x)))

  -- which has executed one word more
  pub word_executed : (x : LaneNode) (k : ℕ)
      → (part_after w x k).executed ≡ (x.lanes k).executed + 1
  word_executed x k =
      (asks_same w.work.layout (wants_at w x k)
      (record { turn = after_word w.work (as_node x k); again = false })).executed

  -- after a message
  pub take_lane : (x : LaneNode) (j : ℕ) (wire : Wire) (k : ℕ) → (take_turn w x j wire).node.lanes k
      ≡ resumed w.work (handled_for w x j wire 0).node (x.lanes k)
  take_lane x j wire k =
      let took : LaneTurn = record {
        node = after_message w x j wire;
        sends = (handled_for w x j wire 0).sends;
        printed = None;
      } in
      ap (λ (n : LaneNode). n.lanes k)
      (ending_node w.work.layout.nodes took (have_ended w took.node && not (have_ended w x)))

  going_executed : (n : Node) (y : LanePart) (p : Phase) (bs : List ℕ)
      → (resume_part w.work n.local y p bs).executed ≡ y.executed
  going_executed n y Running bs = refl
  going_executed n y Resumed bs = refl
  going_executed n y (Ended end) bs = refl
  going_executed n y (Waiting resume) [] = refl
  going_executed n y (Waiting resume) (b ∷ bs) = refl

  pub resumed_executed : (n : Node) (y : LanePart) → (resumed w.work n y).executed ≡ y.executed
  resumed_executed n y = going_executed n y y.phase (still n.wait y.awaits)

  -- 2. Budgets

  -- a lane that may execute a word has one left
  pub record Within (y : LanePart) : Type 0 where
    pub most : y.executed ≤ w.work.budget
    pub less : can_execute y.phase ≡ true → y.executed < w.work.budget

  abbrev pub AllWithin : LaneCore → Type 0
  AllWithin c = (i k : ℕ) → Within ((c.nodes i).lanes k)

  word_within : (x : LaneNode) (k : ℕ) → Within (x.lanes k)
      → can_execute (x.lanes k).phase ≡ true → Within (part_after w x k)
  word_within x k h may =
      let same = asks_same w.work.layout (wants_at w x k)
      (record { turn = after_word w.work (as_node x k); again = false }) in
      let before = h.less may in
      let most : (x.lanes k).executed + 1 ≤ w.work.budget = omega (arith, before) in
      record {
        most = subst (λ z. z ≤ w.work.budget) (sym same.executed) most;
        less = λ e. subst (λ z. z < w.work.budget) (sym same.executed)
            (move_less w.work ((x.lanes k).executed + 1) (word_outcome w.work (as_node x k)).move
            most (ap can_execute (sym same.phase) ∙ e));
      }

  going_within : (n : Node) (y : LanePart) (p : Phase) (bs : List ℕ) → y.phase ≡ p → Within y
      → Within (resume_part w.work n.local y p bs)
  going_within n y Running bs is h = record { most = h.most; less = h.less }
  going_within n y Resumed bs is h = record { most = h.most; less = h.less }
  going_within n y (Ended end) bs is h = record { most = h.most; less = h.less }
  going_within n y (Waiting resume) (b ∷ bs) is h = record { most = h.most; less = h.less }
  going_within n y (Waiting resume) [] is h = record {
    most = h.most;
    less = stop_less w.work y.executed Resumed h.most;
  }

  either_within : (b : Bool) (y z : LanePart) → Within y → Within z → Within (cond b y z)
  either_within true y z g h = g
  either_within false y z g h = h

  may_run_on : (x : LaneNode) (k : ℕ) (p : Phase) → may_execute (standing_in w x k p) ≡ true
      → can_execute p ≡ true
  may_run_on x k Running e = refl
  may_run_on x k Resumed e = refl
  may_run_on x k other e = let bad : false ≡ true = e in cc

  -- a node changes
  changed_within : (c : LaneCore) (i : ℕ) (n : LaneNode) → AllWithin c
      → ((k : ℕ) → Within (n.lanes k)) → (y k : ℕ)
      → Within ((cond (eqb y i) n (c.nodes y)).lanes k)
  changed_within c i n h g y k = (elim (eqb y i) as (λ z. Within ((cond z n (c.nodes y)).lanes k)) [
    | true ↦ g k
    | false ↦ h y k
  ])

  take_within : (c : LaneCore) (i j : ℕ) (xs : List Wire) → AllWithin c
      → AllWithin (take_first w c i j xs)
  take_within c i j [] h = h
  take_within c i j (wire ∷ rest) h =
      let x = c.nodes i in
      changed_within c i (take_turn w x j wire).node h (λ k.
      subst Within (sym (take_lane x j wire k))
      (going_within (handled_for w x j wire 0).node (x.lanes k) (x.lanes k).phase
      (still (handled_for w x j wire 0).node.wait (x.lanes k).awaits) refl (h i k)))

  pub within : (es : List LaneEvent) (c : LaneCore) → AllWithin c → IsLaneRun w c es
      → AllWithin (after w c es)
  within [] c h may = h
  within (Exec p ∷ es) c h may =
      let x = c.nodes (node_of w p) in
      let k = lane_of w p in
      let runs = may_run_on x k (x.lanes k).phase may.0.1 in
      within es (event_step w c (Exec p))
      (changed_within c (node_of w p) (word_turn w x k).node h (λ j.
      subst Within (sym (word_lane x k j)) (either_within (eqb j k) (part_after w x k) (x.lanes j)
      (word_within x k (h (node_of w p) k) runs) (h (node_of w p) j)))) may.1
  within (Take i j ∷ es) c h may =
      within es (event_step w c (Take i j)) (take_within c i j (c.list j i) h) may.1
