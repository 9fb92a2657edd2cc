-- Whether each lane, or some lane, lets its node take a message, and whether a lane may execute a
-- word.
use Rattle.std.proofs.Common.{◌≡◌, ℕ, zero, suc, ◌<◌, ◌&&◌, Bool, true, false, cond, refl, sym, ap, ◌∙◌, inl, inr, arith}
use Rattle.std.specs.Prelude.{◌||◌}
use Rattle.std.proofs.lemmas.Bool.Decides.{eqb_tells}
use Rattle.lane_model.specs.node_model.declared.Standing.TheVariants as standing
use Rattle.lane_model.specs.node_model.Node.{Phase, Running, Resumed, Waiting, Ended, can_execute, is_at_poll}
use Rattle.lane_model.specs.node_model.Core.{may_execute}
use Rattle.lane_model.specs.Nodes.{LaneNode, LaneWork, all_lanes, as_node, some_lane}
use Rattle.lane_model.specs.Core.{standing_in}

pub and_true : (t : Bool) → (t && true) ≡ t
and_true true = refl
and_true false = refl

pub and_false : (t : Bool) → (t && false) ≡ false
and_false true = refl
and_false false = refl

or_true : (t : Bool) → (t || true) ≡ true
or_true true = refl
or_true false = refl

pub lane_not : (f : ℕ → Bool) (m k : ℕ) → k < m → f k ≡ false → all_lanes f m ≡ false
lane_not f zero k low e = absurd (omega (arith, low))
lane_not f (suc m) k low e = elim (eqb_tells k m) [
  | inl t ↦ ap (λ z. z && all_lanes f m) (ap f (sym t.1) ∙ e)
  | inr t ↦ (let other = t.1 in
      ap (λ z. f m && z) (lane_not f m k (omega (arith, other, low)) e) ∙ and_false (f m))
]

pub lane_lets_one : (f : ℕ → Bool) (m k : ℕ) → k < m → f k ≡ true → some_lane f m ≡ true
lane_lets_one f zero k low e = absurd (omega (arith, low))
lane_lets_one f (suc m) k low e = elim (eqb_tells k m) [
  | inl t ↦ ap (λ z. z || some_lane f m) (ap f (sym t.1) ∙ e)
  | inr t ↦ (let other = t.1 in
      ap (λ z. f m || z) (lane_lets_one f m k (omega (arith, other, low)) e) ∙ or_true (f m))
]

-- where each does some does
pub both_lanes : (f : ℕ → Bool) (m : ℕ) → 0 < m → (some_lane f m && all_lanes f m) ≡ all_lanes f m
both_lanes f zero some = absurd (omega (arith, some))
both_lanes f (suc m) some = go (f m)
  where
    go : (t : Bool) → ((t || some_lane f m) && (t && all_lanes f m)) ≡ (t && all_lanes f m)
    go true = refl
    go false = and_false (some_lane f m)

-- whether a lane may execute a word is told by its phase
pub may_is : (w : LaneWork) (x : LaneNode) (k : ℕ) (p : Phase)
    → may_execute (standing_in w x k p) ≡ can_execute p
may_is w x k Running = go (is_at_poll w.work (as_node x k))
  where
    go : (b : Bool) → may_execute (cond b standing.AtPoll standing.Running) ≡ true
    go true = refl
    go false = refl
may_is w x k Resumed = refl
may_is w x k (Waiting r) = refl
may_is w x k (Ended e) = refl
